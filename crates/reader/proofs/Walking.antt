-- The walk's loop: what is to be found is what the rest gives.
use Rattle.std.specs.Prelude.{Option, Some, None}
use mathlib.Core.Path.{◌≡◌, refl, sym, ap, ◌∙◌}
use mathlib.Core.List.{List}
use Prim.Native.Nat.{ℕ, suc, ◌+◌, ◌-◌, ◌*◌, ◌<◌}
use native.Mathlib.Omega.{arith}
use lib.ListN.{length, set, length-set}
use mir.Syntax.{w64}
use mir.Val
use borrow.Author.Rules.{rules}
use Rattle.wire.specs.declared.Order.{Order}
use Rattle.header.specs.declared.Element.{Element}
use Rattle.header.specs.declared.Element.TheVariants.{At, Skip}
use Rattle.header.specs.Codes.{code_limit}
use Rattle.header.specs.Fields.{Fields, place_of, no_fields, element_at, walk, fields_in}
use Rattle.header.proofs.Walk.{Stands, Passes, element_stands, element_passes, walk_end, walk_bad, walk_skip, walk_again, walk_more}
use Rattle.reader.specs.Promises.{Inside}
use Rattle.header.specs.Fixed.{fixed_length}

-- what `?` and then a `match` have found
pub told : {X : Type 0} {x : Option X} {y z : X} → x ≡ Some y → y ≡ z → x ≡ Some z
told w q = w ∙ ap Some q

pub record Walking (o : Order) (h : List ℕ) (end : ℕ) (fs : Fields) (from : ℕ) : Type 0 where
  pub fuel : ℕ
  pub enough : end - from < fuel
  pub inside : Inside h end from
  pub sized : length fs ≡ code_limit
  pub left : fields_in o h end ≡ walk fuel o h end from fs

pub walking_begins : {o : Order} {h : List ℕ} {end : ℕ} → Inside h end fixed_length → Walking o h end no_fields fixed_length
walking_begins {o} {h} {end} i = record { fuel = end - fixed_length + 1; enough = omega arith; inside = i; sized = refl; left = refl }

module _ {o : Order} {h : List ℕ} {end : ℕ} {fs : Fields} {from : ℕ} (w : Walking o h end fs from) where
  -- there is fuel for a step
  step_left : fields_in o h end ≡ walk (suc (w.fuel - 1)) o h end from fs
  step_left = let e : w.fuel ≡ suc (w.fuel - 1) = omega (arith, w.enough) in w.left ∙ ap (λ (n : ℕ). walk n o h end from fs) e

  -- whatever the fuel, a step of the walk says what the whole finds
  by_step : {x : Option Fields} → ((fuel : ℕ) → walk (suc fuel) o h end from fs ≡ x) → x ≡ fields_in o h end
  by_step step = sym (step_left ∙ step (w.fuel - 1))

  pub walking_ends : from ≡ end → Some fs ≡ fields_in o h end
  walking_ends e = by_step (λ fuel. walk_end fuel o h end from fs e)

  module _ (n : from ≡ end → ⊥) {r : Option Element} (p : r ≡ element_at o h end from) where
    pub walking_bad : r ≡ None → None ≡ fields_in o h end
    walking_bad q = by_step (λ fuel. walk_bad fuel o h end from fs n (sym p ∙ q))

    module _ {s : ℕ} (q : r ≡ Some (Skip s)) where
      passes : Passes end from s
      passes = element_passes o h end from (sym p ∙ q)

      pub skipping_falls : end - s < end - from
      skipping_falls = omega (arith, passes)

      pub skipping_more : Walking o h end fs s
      skipping_more =
          record {
            fuel = w.fuel - 1;
            enough = omega (arith, passes, w.enough);
            inside = omega (arith, passes, w.inside);
            sized = w.sized;
            left = step_left ∙ walk_skip (w.fuel - 1) o h end from fs n (sym p ∙ q);
          }

    module _ {c a l s : ℕ} (q : r ≡ Some (At c a l s)) where
      pub stands : Stands end from c a l s
      stands = element_stands o h end from (sym p ∙ q)

      pub code_inside : c < code_limit
      code_inside = stands.known

      pub code_scaled : mir.Val.Fits w64 (c * 16)
      code_scaled = record { fits = omega (arith, stands) }

      pub walking_falls : end - s < end - from
      walking_falls = omega (arith, stands)

      pub walking_again : ((place_of fs c).at ≡ 0 → ⊥) → None ≡ fields_in o h end
      walking_again z = by_step (λ fuel. walk_again fuel o h end from fs n (sym p ∙ q) z)

      pub walking_more : (place_of fs c).at ≡ 0 → Walking o h end (set fs c (record { at = a; len = l })) s
      walking_more z =
          record {
            fuel = w.fuel - 1;
            enough = omega (arith, stands, w.enough);
            inside = omega (arith, stands, w.inside);
            sized = simp length-set w.sized;
            left = step_left ∙ walk_more (w.fuel - 1) o h end from fs n (sym p ∙ q) z;
          }

pub ruleset walking = (
  walking_begins,
  walking_ends,
  walking_bad,
  skipping_falls,
  skipping_more,
  code_inside,
  code_scaled,
  walking_falls,
  walking_again,
  walking_more,
  rules,
)
