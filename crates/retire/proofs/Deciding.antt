-- What a conversion answers: a law for each way through it.
use mathlib.Core.Path.{◌≡◌, refl, sym, ap, ◌∙◌}
use mathlib.Core.Bool.{Bool, true, false, cond, ◌&&◌, and-false}
use mathlib.Core.List.{List, ◌++◌}
use Prim.Native.Nat.{ℕ, ◌+◌, ◌-◌, ◌*◌, ◌^◌, ◌≤◌, ◌<◌}
use native.Mathlib.Omega.{arith}
use native.Mathlib.Nat.{sub-zero}
use lib.Dec.{leb, eqb}
use lib.ListN.{length, take, drop}
use mir.Syntax.{w64}
use mir.Val.{Fits}
use borrow.Author.Rules.{rules}
use borrow.Author.Tests.{le-leb, lt-leb}
use Rattle.wire.specs.Bytes.{same}
use Rattle.wire.specs.Lists.{every, distinct}
use Rattle.wire.proofs.Texts.{both_first}
use Rattle.names.specs.Names.{valid_name}
use Rattle.names.specs.declared.Form.TheVariants.{WellKnown}
use Rattle.image.specs.Image.{rule_count, rule_size}
use Rattle.image.specs.Good.{outcome_of}
use Rattle.image.specs.Promises.{GoodImage}
use Rattle.image.specs.declared.Section.TheVariants.{Own}
use Rattle.image.specs.declared.Outcome.{Outcome}
use Rattle.image.specs.declared.Outcome.TheVariants.{Good, Bad}
use Rattle.image.proofs.Holds.{outcome_bad, outcome_holds}
use Rattle.prefixes.specs.Names.{listed, whole, good_names, good_list}
use Rattle.prefixes.specs.Converted.{new_owns, new_length, converted, roomy, retire_answer}
use Rattle.exacts.specs.Promises.{Writes}
use Rattle.retire.specs.Promises.{Few, Gathers, Retires}
use Rattle.retire.specs.declared.Gathered.{Gathered}
use Rattle.retire.specs.declared.Retired.{Retired}

-- a refusal leaves the room as it was
refuses : (image list room : List ℕ) (a : ℕ) → retire_answer image list (length room) ≡ a → eqb a 0 ≡ false → (r : Retired)
    → r ≡ record { answer = a; length = 0 } → Retires image list room r room
refuses image list room a q z r e =
    record { answered = ap (λ (x : Retired). x.answer) e ∙ sym q; long = ap (λ (x : Retired). x.length) e ∙ rw (q, z); left = rw (q, z) }

-- ---- a good image and a good list

pub list_whole : (list : List ℕ) → good_list list ≡ true → whole list ≡ true
unfolding good_list good_names
list_whole list l =
    both_first (whole list) (every (valid_name WellKnown) (listed list)) (both_first (good_names list) (distinct (λ x. true) same (listed list)) l)

module _ (image list room : List ℕ) (g : GoodImage image) (l : good_list list ≡ true) where
  answer_is : (b : Bool) → roomy image list (length room) ≡ b → retire_answer image list (length room) ≡ cond b 0 53
  unfolding retire_answer
  answer_is b e = rw (g.is, l, e)

  too_large : (r : Retired) → roomy image list (length room) ≡ false → r ≡ record { answer = 53; length = 0 } → Retires image list room r room
  too_large r e = refuses image list room 53 (answer_is false e) refl r

  pub convert_many : {n : Gathered} {s : List ℕ} → Gathers image list n s → 256 < n.rules → (r : Retired) → r ≡ record { answer = 53; length = 0 }
      → Retires image list room r room
  unfolding roomy
  convert_many z h r e = too_large r (rw (lt-leb (length (new_owns image list)) 256 (z.many h))) e

module _ {image list : List ℕ} {n : Gathered} {s : List ℕ} (z : Gathers image list n s) (h : n.rules ≤ 256) where
  few : Few image list n s
  few = z.few h

  pub names_inside : n.names ≤ length s
  names_inside = omega (arith, few.some, z.long)

  module _ (g : GoodImage image) {count : ℕ} (c : count ≡ rule_count Own image) where
    -- the length that is computed
    abbrev size : ℕ
    size = length image - rule_size Own * count + rule_size Own * n.rules + n.bytes

    size_is : size ≡ new_length image list
    size_is = let k = g.header in omega (arith, few.rules, few.bytes)

    pub size_fits : length list * 1 < 2 ^ 63 → Fits w64 size
    size_fits m = let k = g.header in record { fits = omega (arith, few.small) }

    module _ (room : List ℕ) (l : good_list list ≡ true) where
      pub convert_large : 65536 < size → (r : Retired) → r ≡ record { answer = 53; length = 0 } → Retires image list room r room
      unfolding roomy
      convert_large m r e =
          too_large image list room g l r (rw (lt-leb (new_length image list) 65536 (omega (arith, size_is)), and-false (leb (length (new_owns image list)) 256))) e

      pub convert_short : length room < size → (r : Retired) → r ≡ record { answer = 53; length = 0 } → Retires image list room r room
      unfolding roomy
      convert_short m r e =
          let k : leb (new_length image list) (length room) ≡ false = lt-leb (new_length image list) (length room) (omega (arith, size_is)) in
          too_large image list room g l r (rw (k, and-false (leb (length (new_owns image list)) 256 && leb (new_length image list) 65536))) e

      module _ (m : size ≤ 65536) (o : size ≤ length room) where
        pub convert_writes : Writes image list (take (n.names - 0) (drop 0 s)) size n.rules room
        convert_writes =
            rw (sub-zero n.names)
            (record { good = g; names = few.names; each = few.each; sized = size_is; owned = few.rules; few = h; small = m; fits = o })

        pub convert_done : (u : List ℕ) → u ≡ converted image list ++ drop (new_length image list) room
            → Retires image list room (record { answer = 0; length = size }) u
        unfolding roomy
        convert_done u e =
            let r : roomy image list (length room) ≡ true
            = rw (
              le-leb (length (new_owns image list)) 256 (omega (arith, few.rules)),
              le-leb (new_length image list) 65536 (omega (arith, size_is)),
              le-leb (new_length image list) (length room) (omega (arith, size_is)),
            ) in
            let q : retire_answer image list (length room) ≡ 0 = answer_is image list room g l true r in
            record { answered = sym q; long = size_is ∙ rw q; left = e ∙ rw q }

pub ruleset converting = (list_whole, convert_many, names_inside, size_fits, convert_large, convert_short, convert_writes, convert_done, rules)

-- ---- any image and any list

module _ (image : List ℕ) {o : Outcome} (e : o ≡ outcome_of image) where
  pub image_good : o ≡ Good → GoodImage image
  image_good t = outcome_holds image (sym e ∙ t)

  pub image_bad : (list room : List ℕ) → o ≡ Bad → (r : Retired) → r ≡ record { answer = 50; length = 0 } → Retires image list room r room
  unfolding retire_answer
  image_bad list room b r = refuses image list room 50 (rw (outcome_bad image (sym e ∙ b))) refl r

  pub list_bad : (list room : List ℕ) → o ≡ Good → (b : Bool) → b ≡ good_list list → b ≡ false → (r : Retired) → r ≡ record { answer = 54; length = 0 }
      → Retires image list room r room
  unfolding retire_answer
  list_bad list room t b p q r = refuses image list room 54 (rw ((image_good t).is, ← p, q)) refl r

pub list_good : (list : List ℕ) (b : Bool) → b ≡ good_list list → b ≡ true → good_list list ≡ true
list_good list b p q = sym p ∙ q

pub ruleset retiring = (image_bad, image_good, list_bad, list_good, rules)
