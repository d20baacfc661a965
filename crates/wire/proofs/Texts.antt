-- What the tests of runs of bytes say.
use Rattle.std.proofs.Common.{◌≡◌, refl, sym, ap, ap₂, ◌⊎◌, inl, inr, Bool, true, false, ◌&&◌, ◌||◌, List, [], ◌∷◌, ◌++◌, ℕ, arith, eqb, length}
use Rattle.std.proofs.Common.{replicate, length-append, length-take, eq-eqb, eqb-true}
use mathlib.Core.Bool.{and_assoc, false≢true}
use lib.ListN.{length-replicate}
use lib.Pointwise.{pointwise}
use Rattle.wire.specs.Bytes.{all_zero, same, pad}

-- ---- what cannot be

-- two different cases are equal: `cc` finds them among what is known, and anything follows
pub impossible : {A : Type 0} → ◌≡◌ {A = ℕ} 0 1 → A
impossible e = absurd (omega arith)

-- ---- tests joined

pub both_first : (a b : Bool) → a && b ≡ true → a ≡ true
both_first true b h = refl
both_first false b h = h

pub both_second : (a b : Bool) → a && b ≡ true → b ≡ true
both_second true b h = h
both_second false b h = absurd (false≢true h)

pub ruleset both = (both_first, both_second)

pub both_true : (a b : Bool) → a ≡ true → b ≡ true → a && b ≡ true
both_true a b p q = rw (p, q)

pub either : (a b : Bool) → a || b ≡ true → (a ≡ true) ⊎ (b ≡ true)
either true b h = inl refl
either false b h = inr h

-- two tests that hold in the same cases
pub agree : (a b : Bool) → (a ≡ true → b ≡ true) → (b ≡ true → a ≡ true) → a ≡ b
agree true b h k = sym (h refl)
agree false true h k = k refl
agree false false h k = refl

-- ---- equal texts

pub same_refl : (xs : List ℕ) → same xs xs ≡ true
unfolding same
same_refl [] = refl
same_refl (x ∷ xs) = rw (eq-eqb x x refl) (same_refl xs)

-- as the library compares two slices
pub pointwise_same : (xs ys : List ℕ) → pointwise eqb xs ys ≡ same xs ys
unfolding same
pointwise_same [] [] = refl
pointwise_same [] (y ∷ ys) = refl
pointwise_same (x ∷ xs) [] = refl
pointwise_same (x ∷ xs) (y ∷ ys) = rw (pointwise_same xs ys)

pub same_eq : (xs ys : List ℕ) → same xs ys ≡ true → xs ≡ ys
unfolding same
same_eq [] [] h = refl
same_eq [] (y ∷ ys) h = absurd (false≢true h)
same_eq (x ∷ xs) [] h = absurd (false≢true h)
same_eq (x ∷ xs) (y ∷ ys) h =
    ap₂ ◌∷◌ (eqb-true x y (both_first (eqb x y) (same xs ys) h)) (same_eq xs ys (both_second (eqb x y) (same xs ys) h))

pub eq_same : (xs ys : List ℕ) → xs ≡ ys → same xs ys ≡ true
eq_same xs ys e = rw e (same_refl ys)

pub ne_same : (xs ys : List ℕ) → (xs ≡ ys → ⊥) → same xs ys ≡ false
ne_same xs ys h = go (same xs ys) refl
  where
    go : (b : Bool) → same xs ys ≡ b → b ≡ false
    go true e = absurd (h (same_eq xs ys e))
    go false e = refl

pub same_length : (xs ys : List ℕ) → (length xs ≡ length ys → ⊥) → same xs ys ≡ false
same_length xs ys h = ne_same xs ys (λ e. h (ap length e))

pub same_append : (xs us ys vs : List ℕ) → length xs ≡ length us → same (xs ++ ys) (us ++ vs) ≡ same xs us && same ys vs
unfolding same
same_append [] [] ys vs e = refl
same_append [] (u ∷ us) ys vs e = absurd (omega arith)
same_append (x ∷ xs) [] ys vs e = absurd (omega arith)
same_append (x ∷ xs) (u ∷ us) ys vs e = rw (same_append xs us ys vs (omega arith), and_assoc (eqb x u) (same xs us) (same ys vs))

-- ---- zeros

pub zero_append : (xs ys : List ℕ) → all_zero (xs ++ ys) ≡ all_zero xs && all_zero ys
unfolding all_zero
zero_append [] ys = refl
zero_append (x ∷ xs) ys = rw (zero_append xs ys, and_assoc (eqb x 0) (all_zero xs) (all_zero ys))

pub zero_zeros : (xs : List ℕ) → all_zero xs ≡ true → xs ≡ replicate (length xs) 0
unfolding all_zero
zero_zeros [] h = refl
zero_zeros (x ∷ xs) h =
    ap₂ ◌∷◌ (eqb-true x 0 (both_first (eqb x 0) (all_zero xs) h)) (zero_zeros xs (both_second (eqb x 0) (all_zero xs) h))

pub pad_length : (n : ℕ) (xs : List ℕ) → length (pad n xs) ≡ n
unfolding pad
pad_length n xs = simp (length-take, length-append, length-replicate) (omega arith)
