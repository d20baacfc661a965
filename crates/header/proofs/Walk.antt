-- The walk over the array: where an element stands, what a step leaves, and that what was found lies in the head.
use Rattle.std.specs.Prelude.{Option, Some, None}
use mathlib.Core.Path.{◌≡◌, refl, sym, subst, ◌∙◌}
use mathlib.Core.Bool.{Bool, true, false, cond, ◌&&◌}
use mathlib.Core.List.{List}
use Prim.Native.Nat.{ℕ, zero, suc, ◌+◌, ◌-◌, ◌≤◌, ◌<◌}
use native.Mathlib.Decide.{dec_le}
use native.Mathlib.Omega.{arith}
use lib.Dec.{leb, ltb, eqb}
use lib.ListN.{length, take, drop, get_or, set, length-set, get_or-replicate, get_or-eq_default}
use lib.Seq.{get_or-set_same, get_or-set_other}
use borrow.Author.Tests.{eq-eqb, ne_eqb, eqb-true, eqb-false, ltb-true, leb-true}
use Rattle.wire.specs.Bytes.{byte, all_zero}
use Rattle.wire.specs.Words.{word_at, round_up_8}
use Rattle.wire.specs.declared.Order.{Order}
use Rattle.wire.proofs.Texts.{impossible, both_first}
use Rattle.variant.specs.Walk.{skipped}
use Rattle.variant.proofs.Skipped.{skipped_in}
use Rattle.header.specs.declared.Element.{Element}
use Rattle.header.specs.declared.Element.TheVariants.{At, Skip}
use Rattle.header.specs.Codes.{code_limit, letter_of}
use Rattle.header.specs.Fixed.{fixed_length}
use Rattle.header.specs.Fields.{Fields, absent, place_of, no_fields, text_in, value_at, framed, known_at, unknown_at, by_code, element_at, walk, fields_in}
use Rattle.header.specs.Promises.{ValuesFit}

-- ---- where an element stands

-- a known field: its code is below the limit, and its value lies behind `from` and stops at `end` at the latest
pub record Stands (end from code at len stop : ℕ) : Type 0 where
  pub known : code < code_limit
  pub above : from < at
  pub inside : at + len ≤ stop
  pub ends : stop ≤ end

-- an unknown field: it stops behind `from`, and at `end` at the latest
pub record Passes (end from stop : ℕ) : Type 0 where
  pub above : from < stop
  pub ends : stop ≤ end

-- one or the other, of any element
abbrev Placed : ℕ → ℕ → Option Element → Type 0
Placed end from (Some (At c a l s)) = Stands end from c a l s
Placed end from (Some (Skip s)) = Passes end from s
Placed end from None = Unit {0}

module _ (h : List ℕ) (end from code : ℕ) (k : code < code_limit) where
  text_placed : (at len : ℕ) → from < at → Placed end from (text_in h end code at len)
  unfolding text_in
  text_placed at len i = go (ltb (at + len) end && eqb (get_or h (at + len) 0) 0) refl
    where
      go : (b : Bool) → ltb (at + len) end && eqb (get_or h (at + len) 0) 0 ≡ b → Placed end from (cond b (Some (At code at len (at + len + 1))) None)
      go true t =
          let u : at + len < end = ltb-true (at + len) end (both_first (ltb (at + len) end) (eqb (get_or h (at + len) 0) 0) t) in
          record { known = k; above = i; inside = omega arith; ends = omega arith }
      go false t = tt

  value_placed : (o : Order) (letter at : ℕ) → from < at → Placed end from (value_at o h end code letter at)
  unfolding value_at
  value_placed o letter at i = go (eqb letter (byte "g")) (eqb letter (byte "u")) (leb (at + 4) end) refl
    where
      go : (g u n : Bool) → leb (at + 4) end ≡ n
          → Placed end from
          (cond g (text_in h end code (at + 1) (get_or h at 0)) (cond u (cond n (Some (At code at 4 (at + 4))) None) (text_in h end code (at + 4) (word_at o h at))))
      go true u n t = text_placed (at + 1) (get_or h at 0) (omega arith)
      go false true true t = record { known = k; above = i; inside = omega arith; ends = leb-true (at + 4) end t }
      go false true false t = tt
      go false false n t = text_placed (at + 4) (word_at o h at) (omega arith)

module _ (o : Order) (h : List ℕ) (end from at : ℕ) (i : from ≤ at) where
  known_placed : get_or h at 0 < code_limit → Placed end from (known_at o h end at)
  unfolding known_at
  known_placed k = go (framed h at)
    where
      go : (b : Bool) → Placed end from (cond b (value_at o h end (get_or h at 0) (letter_of (get_or h at 0)) (at + 4)) None)
      go true = value_placed h end from (get_or h at 0) k o (letter_of (get_or h at 0)) (at + 4) (omega arith)
      go false = tt

  unknown_placed : Placed end from (unknown_at o h end at)
  unfolding unknown_at
  unknown_placed = go (skipped o h (at + 1) end) refl
    where
      go : (t : Option ℕ) → skipped o h (at + 1) end ≡ t → Placed end from (elim t [ None ↦ None | Some to ↦ Some (Skip to) ])
      go None e = tt
      go (Some to) e = let p = skipped_in o h (at + 1) end e in record { above = omega arith; ends = p.1 }

  code_placed : Placed end from (by_code o h end at)
  code_placed = go (ltb (get_or h at 0) code_limit) refl
    where
      go : (b : Bool) → ltb (get_or h at 0) code_limit ≡ b → Placed end from (cond b (known_at o h end at) (unknown_at o h end at))
      go true t = known_placed (ltb-true (get_or h at 0) code_limit t)
      go false t = unknown_placed

element_placed : (o : Order) (h : List ℕ) (end from : ℕ) → Placed end from (element_at o h end from)
unfolding element_at
element_placed o h end from = go (all_zero (take (round_up_8 from - from) (drop from h)))
  where
    go : (b : Bool) → Placed end from (cond b (by_code o h end (round_up_8 from)) None)
    go true = code_placed o h end from (round_up_8 from) (omega arith)
    go false = tt

pub element_stands : (o : Order) (h : List ℕ) (end from : ℕ) {c a l s : ℕ} → element_at o h end from ≡ Some (At c a l s) → Stands end from c a l s
element_stands o h end from e = subst (Placed end from) e (element_placed o h end from)

pub element_passes : (o : Order) (h : List ℕ) (end from : ℕ) {s : ℕ} → element_at o h end from ≡ Some (Skip s) → Passes end from s
element_passes o h end from e = subst (Placed end from) e (element_placed o h end from)

-- ---- a step of the walk

module _ (fuel : ℕ) (o : Order) (h : List ℕ) (end from : ℕ) (fs : Fields) where
  pub walk_end : from ≡ end → walk (suc fuel) o h end from fs ≡ Some fs
  unfolding walk
  walk_end e = rw (walk, eq-eqb from end e)

  module _ (n : from ≡ end → ⊥) where
    pub walk_bad : element_at o h end from ≡ None → walk (suc fuel) o h end from fs ≡ None
    unfolding walk
    walk_bad e = rw (walk, ne_eqb from end n, e)

    pub walk_skip : {s : ℕ} → element_at o h end from ≡ Some (Skip s) → walk (suc fuel) o h end from fs ≡ walk fuel o h end s fs
    unfolding walk
    walk_skip e = rw (walk, ne_eqb from end n, e)

    module _ {c a l s : ℕ} (e : element_at o h end from ≡ Some (At c a l s)) where
      pub walk_again : ((place_of fs c).at ≡ 0 → ⊥) → walk (suc fuel) o h end from fs ≡ None
      unfolding walk
      walk_again z = rw (walk, ne_eqb from end n, e, ne_eqb (place_of fs c).at 0 z)

      pub walk_more : (place_of fs c).at ≡ 0 → walk (suc fuel) o h end from fs ≡ walk fuel o h end s (set fs c (record { at = a; len = l }))
      unfolding walk
      walk_more z = rw (walk, ne_eqb from end n, e, eq-eqb (place_of fs c).at 0 z)

-- ---- what a walk has found lies in the head

fits_none : (h : List ℕ) → ValuesFit h no_fields
fits_none h = record { sized = refl; inside = λ code. go code (dec_le code_limit code) }
  where
    go : (code : ℕ) → Dec (code_limit ≤ code) → (place_of no_fields code).at + (place_of no_fields code).len ≤ length h
    go code (yes l) = rw (get_or-eq_default no_fields absent l) (omega arith)
    go code (no l) = rw (get_or-replicate code_limit code absent absent (omega arith)) (omega arith)

fits_more : {h : List ℕ} {fs : Fields} (c a l : ℕ) → ValuesFit h fs → c < code_limit → a + l ≤ length h → ValuesFit h (set fs c (record { at = a; len = l }))
fits_more {h} {fs} c a l f k m =
    record { sized = simp length-set f.sized; inside = λ code. go code (eqb code c) refl }
  where
    go : (code : ℕ) (b : Bool) → eqb code c ≡ b
        → (place_of (set fs c (record { at = a; len = l })) code).at + (place_of (set fs c (record { at = a; len = l })) code).len ≤ length h
    go code true e =
        let i : code ≡ c = eqb-true code c e in
        rw (i, get_or-set_same fs c (record { at = a; len = l }) absent (omega (arith, f.sized))) m
    go code false e = rw (get_or-set_other fs c code (record { at = a; len = l }) absent (eqb-false code c e)) (f.inside code)

-- the same of what one more step finds, where it holds of the rest
module _ (fuel : ℕ) (o : Order) (h : List ℕ) (end from : ℕ) (fs gs : Fields) (k : end ≤ length h) (f : ValuesFit h fs)
    (e : walk (suc fuel) o h end from fs ≡ Some gs)
    (rest : (s : ℕ) (fs' : Fields) → ValuesFit h fs' → walk fuel o h end s fs' ≡ Some gs → ValuesFit h gs) where
  nothing : None ≡ Some gs → ValuesFit h gs
  nothing y = impossible cc

  step_found : {c a l s : ℕ} → (from ≡ end → ⊥) → element_at o h end from ≡ Some (At c a l s) → (b : Bool) → eqb (place_of fs c).at 0 ≡ b → ValuesFit h gs
  step_found {c} {a} {l} {s} n q true z =
      let t : Stands end from c a l s = element_stands o h end from q in
      rest s (set fs c (record { at = a; len = l })) (fits_more c a l f t.known (omega arith))
      (sym (walk_more fuel o h end from fs n q (eqb-true (place_of fs c).at 0 z)) ∙ e)
  step_found {c} n q false z = nothing (sym (walk_again fuel o h end from fs n q (eqb-false (place_of fs c).at 0 z)) ∙ e)

  step_element : (from ≡ end → ⊥) → (r : Option Element) → element_at o h end from ≡ r → ValuesFit h gs
  step_element n None q = nothing (sym (walk_bad fuel o h end from fs n q) ∙ e)
  step_element n (Some (Skip s)) q = rest s fs f (sym (walk_skip fuel o h end from fs n q) ∙ e)
  step_element n (Some (At c a l s)) q = step_found n q (eqb (place_of fs c).at 0) refl

  step_fits : (b : Bool) → eqb from end ≡ b → ValuesFit h gs
  step_fits true b =
      let y : Some fs ≡ Some gs = sym (walk_end fuel o h end from fs (eqb-true from end b)) ∙ e in
      let x : fs ≡ gs = cc in
      subst (ValuesFit h) x f
  step_fits false b = step_element (eqb-false from end b) (element_at o h end from) refl

walk_fits : (fuel : ℕ) (o : Order) (h : List ℕ) (end from : ℕ) (fs gs : Fields) → end ≤ length h → ValuesFit h fs
    → walk fuel o h end from fs ≡ Some gs → ValuesFit h gs
unfolding walk
walk_fits zero o h end from fs gs k f e = impossible cc
walk_fits (suc fuel) o h end from fs gs k f e =
    step_fits fuel o h end from fs gs k f e (λ s fs' f' e'. walk_fits fuel o h end s fs' gs k f' e') (eqb from end) refl

pub array_fits : (o : Order) (h : List ℕ) (end : ℕ) (fs : Fields) → end ≤ length h → fields_in o h end ≡ Some fs → ValuesFit h fs
array_fits o h end fs k e = walk_fits (end - fixed_length + 1) o h end fixed_length no_fields fs k (fits_none h) e
