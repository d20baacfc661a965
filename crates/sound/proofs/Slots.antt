-- Lists of slots by place, where a place past the last is free: what a test that refuses free slots says of them, and what setting a slot changes.
use mathlib.Core.Path.{◌≡◌, refl, sym, ap, ◌∙◌}
use mathlib.Core.Logic.{◌⊎◌, inl, inr}
use mathlib.Core.Bool.{Bool, true, false, false≢true}
use mathlib.Core.List.{List, [], ◌∷◌}
use Prim.Native.Nat.{ℕ, zero, suc, ◌<◌}
use native.Mathlib.Omega.{arith}
use native.Mathlib.Decide.{ℕ_discrete}
use lib.Dec.{ltb}
use lib.ListN.{length, get_or, set}
use lib.Seq.{get_or-set_same, get_or-set_other}
use borrow.Author.Tests.{not-true}
use Rattle.wire.specs.Lists.{any, every}
use Rattle.stream.specs.Tail.{Tail}
use Rattle.rules.specs.State.{Slot, free, first_by}
use Rattle.memory.specs.Good.{nobody}
use Rattle.wire.proofs.Texts.{either}
use Rattle.wire.proofs.Tests.{clash, or_left, or_right, refute}
use Rattle.rules.proofs.First.{first_any}

-- ---- somebody passes a test, or nobody

-- somebody does
pub somebody_at : (t : Slot Tail → Bool) (l : List (Slot Tail)) → any t l ≡ true → (j : ℕ) × (t (get_or l j free) ≡ true)
somebody_at t [] e = absurd (false≢true e)
somebody_at t (x ∷ l) e =
    elim (either (t x) (any t l) e) [ inl p ↦ (0, p) | inr p ↦ let r = somebody_at t l p in (suc r.0, r.1) ]

-- where no free slot passes
pub somebody_of : (t : Slot Tail → Bool) → t free ≡ false → (l : List (Slot Tail)) (j : ℕ) → t (get_or l j free) ≡ true → any t l ≡ true
somebody_of t f [] j h = absurd (clash h f)
somebody_of t f (x ∷ l) zero h = or_left (t x) (any t l) h
somebody_of t f (x ∷ l) (suc j) h = or_right (t x) (any t l) (somebody_of t f l j h)

pub nobody_at : (t : Slot Tail → Bool) → t free ≡ false → (l : List (Slot Tail)) → nobody t l ≡ true → (j : ℕ) → t (get_or l j free) ≡ false
nobody_at t f l e j = refute (t (get_or l j free)) (λ h. clash (somebody_of t f l j h) (not-true (any t l) e))

pub nobody_of : (t : Slot Tail → Bool) (l : List (Slot Tail)) → ((j : ℕ) → t (get_or l j free) ≡ false) → nobody t l ≡ true
nobody_of t l h = rw (refute (any t l) (λ e. let r = somebody_at t l e in clash r.1 (h r.0)))

-- where no first one passes, nobody does
pub first_none : (t : Slot Tail → Bool) (l : List (Slot Tail)) → ltb (first_by t l) (length l) ≡ false → nobody t l ≡ true
first_none t l e = rw (first_any t l, e)

-- ---- every slot passes a test

pub every_of : (t : Slot Tail → Bool) (l : List (Slot Tail)) → ((j : ℕ) → t (get_or l j free) ≡ true) → every t l ≡ true
every_of t [] h = refl
every_of t (x ∷ l) h = rw (h 0) (every_of t l (λ j. h (suc j)))

-- ---- a slot set

-- the slot that was set, or another
pub put_cases : {S : Type 0} (P : Slot S → Type 0) (l : List (Slot S)) (i : ℕ) (x : Slot S) → i < length l
    → (j : ℕ) → (j ≡ i → P x) → ((j ≡ i → ⊥) → P (get_or l j free)) → P (get_or (set l i x) j free)
put_cases P l i x h j a b =
    elim (ℕ_discrete j i) [ yes e ↦ rw (e, get_or-set_same l i x free h) (a e) | no n ↦ rw (get_or-set_other l i j x free n) (b n) ]

pub put_passes : {S : Type 0} (t : Slot S → Bool) (l : List (Slot S)) (i : ℕ) (x : Slot S) → i < length l
    → (j : ℕ) → t (get_or (set l i x) j free) ≡ true → ((j ≡ i) × (t x ≡ true)) ⊎ ((j ≡ i → ⊥) × (t (get_or l j free) ≡ true))
put_passes t l i x h j =
    put_cases (λ y. t y ≡ true → ((j ≡ i) × (t x ≡ true)) ⊎ ((j ≡ i → ⊥) × (t (get_or l j free) ≡ true))) l i x h j (λ e p. inl (e, p)) (λ n p. inr (n, p))

-- ---- at most one slot passes

abbrev pub Single : {S : Type 0} → (Slot S → Bool) → List (Slot S) → Type 0
Single t l = (i j : ℕ) → t (get_or l i free) ≡ true → t (get_or l j free) ≡ true → i ≡ j

pub single_set : {S : Type 0} (t : Slot S → Bool) (l : List (Slot S)) (i : ℕ) (x : Slot S) → i < length l → Single t l
    → ((j : ℕ) → t x ≡ true → t (get_or l j free) ≡ true → j ≡ i) → Single t (set l i x)
single_set t l i x h s o a b p q = go (put_passes t l i x h a p) (put_passes t l i x h b q)
  where
    go : ((a ≡ i) × (t x ≡ true)) ⊎ ((a ≡ i → ⊥) × (t (get_or l a free) ≡ true)) → ((b ≡ i) × (t x ≡ true)) ⊎ ((b ≡ i → ⊥) × (t (get_or l b free) ≡ true)) → a ≡ b
    go (inl u) (inl v) = u.0 ∙ sym v.0
    go (inl u) (inr v) = absurd (v.0 (o b u.1 v.1))
    go (inr u) (inl v) = absurd (u.0 (o a v.1 u.1))
    go (inr u) (inr v) = s a b u.1 v.1

-- the first of a list, beside those after it
pub single_head : (t : Slot Tail → Bool) (x : Slot Tail) (l : List (Slot Tail)) → (t x ≡ true → (j : ℕ) → t (get_or l j free) ≡ false) → Single t l
    → Single t (x ∷ l)
single_head t x l n s zero zero p q = refl
single_head t x l n s zero (suc j) p q = absurd (clash q (n p j))
single_head t x l n s (suc i) zero p q = absurd (clash p (n q i))
single_head t x l n s (suc i) (suc j) p q = ap suc (s i j p q)

pub single_apart : (t : Slot Tail → Bool) (x : Slot Tail) (l : List (Slot Tail)) → Single t (x ∷ l) → t x ≡ true → (j : ℕ) → t (get_or l j free) ≡ false
single_apart t x l s p j = refute (t (get_or l j free)) (λ e. let z = s zero (suc j) p e in omega arith)

pub single_rest : (t : Slot Tail → Bool) (x : Slot Tail) (l : List (Slot Tail)) → Single t (x ∷ l) → Single t l
single_rest t x l s i j p q = let e = s (suc i) (suc j) p q in omega arith
