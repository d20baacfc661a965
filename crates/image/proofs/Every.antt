-- A test of each number below a bound by `all` over the range, from the highest number down.
use Rattle.std.proofs.Common.{◌≡◌, ℕ, zero, suc, ◌+◌, ◌-◌, ◌<◌, Bool, true, false, List, [], ◌∷◌, length, Option, refl, sym, ◌∙◌, arith}
use mathlib.Core.Bool.{and-false}
use Rattle.std.specs.Bool.{MatchBool}
use Rattle.std.specs.Option.{MatchOption}
use Rattle.std.specs.List.{AllWithin, HoldsAt}
use Rattle.std.specs.declared.iter.Rev.{Rev}
use Rattle.std.specs.declared.ops.Range.{Range}
use Rattle.std.proofs.lemmas.Iterator.{YieldsList}
use Rattle.std.proofs.lemmas.Iterator.Splits.{YieldsList-from_shown_while}
use Rattle.wire.specs.Lists.{below}
use Rattle.wire.proofs.Texts.{both_true}

-- the numbers below n, the highest first
abbrev pub down : ℕ → List ℕ
down zero = []
down (suc n) = n ∷ down n

-- how a range that is reversed gives its next number
abbrev Steps : Rev (Range ℕ) → Option ℕ → Rev (Range ℕ) → Type 0
Steps s r t =
    (t.iter.start ≡ s.iter.start)
    × MatchOption r ((s.iter.end - s.iter.start ≡ 0) × (t.iter.end ≡ s.iter.end))
    (λ x. (0 < s.iter.end - s.iter.start) × (x ≡ t.iter.end) × (s.iter.end ≡ t.iter.end + 1))

none_left : (n : ℕ) → n ≡ 0 → length (down n) ≡ 0
none_left zero e = refl
none_left (suc n) e = absurd (omega arith)

one_less : (n m : ℕ) → n ≡ m + 1 → down n ≡ m ∷ down m
one_less n m e = let f : n ≡ suc m = omega arith in rw f

pub yields_down : {s : Rev (Range ℕ)} (n : ℕ) → s.iter ≡ record { start = 0; end = n } → YieldsList Steps (λ x. x) s (down n)
yields_down {s} n e =
    let start : s.iter.start ≡ 0 = rw e in
    let end : s.iter.end ≡ n = rw e in
    rw (← end)
    (YieldsList-from_shown_while Steps (λ x. x) (λ u. down u.iter.end) (λ u. u.iter.start ≡ 0)
    (λ u t z k. none_left u.iter.end (omega arith))
    (λ u x t z k. (k.0 ∙ z, one_less u.iter.end t.iter.end k.1.2 ∙ rw k.1.1))
    s start)

module _ (p : ℕ → Bool) where
  all_pass : (n : ℕ) → AllWithin (λ i. p i ≡ true) (down n) 0 (length (down n)) → below p n ≡ true
  all_pass zero h = refl
  all_pass (suc n) h = both_true (below p n) (p n) (all_pass n (λ j d l m. h (suc j) d (omega arith) (omega arith))) (h 0 0 (omega arith) (omega arith))

  one_fails : (n k : ℕ) → k < length (down n) → HoldsAt (λ i. p i ≡ false) (down n) k → false ≡ below p n
  one_fails zero k l h = absurd (omega arith)
  one_fails (suc n) zero l h = rw (h 0, and-false)
  one_fails (suc n) (suc k) l h = rw (← one_fails n k (omega arith) (λ d. h d))

  -- what the call returned, from what it says of the numbers that it tested
  pub below_is : (n : ℕ) (r : Bool)
      → MatchBool r (AllWithin (λ i. p i ≡ true) (down n) 0 (length (down n)))
      ((k : ℕ) × (k < length (down n)) × HoldsAt (λ i. p i ≡ false) (down n) k)
      → r ≡ below p n
  below_is n true h = sym (all_pass n h)
  below_is n false (k, l, h) = one_fails n k l h
