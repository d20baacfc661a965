-- Tests in a row, and a test of each number below n: what they say of one, and how a loop that counts down makes them.
use Rattle.std.proofs.Common.{◌≡◌, refl, sym, ◌∙◌, ⊎_elim, Bool, true, false, not, ◌&&◌, List, [], ◌∷◌, ℕ, zero, suc, ◌-◌, ◌≤◌, ◌<◌, eq-or-lt_of_le}
use Rattle.std.proofs.Common.{arith, get_or, rules}
use mathlib.Core.Bool.{and-true, and-false}
use borrow.Author.Tests.{not-true, not-false}
use Rattle.wire.specs.Lists.{below}
use Rattle.wire.proofs.Texts.{both_first, both_second, both_true}

-- ---- a row of tests, as definitions write it: `a && b && c` is `row true (a ∷ b ∷ c ∷ [])`

abbrev pub row : Bool → List Bool → Bool
row done [] = done
row done (b ∷ bs) = row (done && b) bs

row_start : (done : Bool) (bs : List Bool) → row done bs ≡ true → done ≡ true
row_start done [] h = h
row_start done (b ∷ bs) h = both_first done b (row_start (done && b) bs h)

pub row_each : (done : Bool) (bs : List Bool) → row done bs ≡ true → (i : ℕ) → get_or bs i true ≡ true
row_each done [] h i = refl
row_each done (b ∷ bs) h zero = both_second done b (row_start (done && b) bs h)
row_each done (b ∷ bs) h (suc i) = row_each (done && b) bs h i

-- ---- each number below n

module _ (p : ℕ → Bool) where
  pub below_at : (n : ℕ) → below p n ≡ true → (j : ℕ) → j < n → p j ≡ true
  below_at zero h j l = absurd (omega arith)
  below_at (suc n) h j l =
      ⊎_elim
      (λ (e : j ≡ n). rw e (both_second (below p n) (p n) h))
      (λ (k : j < n). below_at n (both_first (below p n) (p n) h) j k)
      (eq-or-lt_of_le (omega arith))

  pub below_all : (n : ℕ) → ((j : ℕ) → j < n → p j ≡ true) → below p n ≡ true
  below_all zero h = refl
  below_all (suc n) h = both_true (below p n) (p n) (below_all n (λ j l. h j (omega arith))) (h n (omega arith))

  step : (i : ℕ) → 0 < i → below p i ≡ below p (i - 1) && p (i - 1)
  step zero l = absurd (omega arith)
  step (suc i) l = let e : suc i - 1 ≡ i = omega arith in rw e

-- of the tests below n, those below i are left
pub record Testing (p : ℕ → Bool) (n i : ℕ) : Type 0 where
  pub inside : i ≤ n
  pub same : below p n ≡ below p i

pub begin : {p : ℕ → Bool} {n : ℕ} {i : ℕ} → i ≡ n → Testing p n i
begin {p} e = record { inside = omega arith; same = rw e }

module _ {p : ℕ → Bool} {n i : ℕ} (t : Testing p n i) where
  pub done : i ≤ 0 → true ≡ below p n
  done h = let e : i ≡ 0 = omega arith in sym (t.same ∙ rw e)

  module _ (h : 0 < i) {r : Bool} (is : r ≡ p (i - 1)) where
    pub more : not r ≡ false → Testing p n (i - 1)
    more f = record { inside = omega arith; same = t.same ∙ rw (step p i h, ← is, not-false r f, and-true) }

    pub fails : not r ≡ true → false ≡ below p n
    fails f = sym (t.same ∙ rw (step p i h, ← is, not-true r f, and-false))

pub ruleset testing = (begin, done, more, fails, rules)
