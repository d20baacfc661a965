-- The first thing of a list from one of its places on that passes a test, by what the test says of each thing up to it; and the same of the slots.
use Rattle.std.proofs.Common.{Bool, true, false, List, ◌≡◌, refl, sym, ◌∙◌, ℕ, zero, suc, ◌+◌, ◌-◌, ◌≤◌, ◌<◌, add-one, arith, length, get_or, drop}
use Rattle.std.proofs.Common.{Option, Some, None, MatchOption}
use lib.ListN.{drop_of_length-le}
use lib.Seq.{drop-cons}
use Rattle.stream.specs.Tail.{Tail}
use Rattle.rules.specs.State.{Slot, free, first_by}
use Rattle.memory.specs.Encoding.{state_of}
use Rattle.memory.specs.Places.{FoundSlot}
use Rattle.memory.proofs.Reading.{sixteen}

-- ---- of any list

module _ {A : Type 0} (t : A → Bool) where
  pub first_hit : (l : List A) (i : ℕ) (d : A) → i < length l → t (get_or l i d) ≡ true → first_by t (drop i l) ≡ 0
  unfolding first_by
  first_hit l i d h e = rw (drop-cons l i d h, e)

  pub first_miss : (l : List A) (i : ℕ) (d : A) → i < length l → t (get_or l i d) ≡ false
      → first_by t (drop i l) ≡ suc (first_by t (drop (i + 1) l))
  unfolding first_by
  first_miss l i d h e = rw (drop-cons l i d h, e, add-one i)

  pub first_none : (l : List A) (i : ℕ) → length l ≤ i → first_by t (drop i l) ≡ 0
  unfolding first_by
  first_none l i e = rw (drop_of_length-le l e)

  -- no thing from `from` on passes before thing i, which is j behind
  first_past : (l : List A) (d : A) (j from i : ℕ) → from + j ≡ i → i ≤ length l → ((k : ℕ) → from ≤ k → k < i → t (get_or l k d) ≡ false)
      → from + first_by t (drop from l) ≡ i + first_by t (drop i l)
  first_past l d zero from i e h f = let q : from ≡ i = omega arith in rw q
  first_past l d (suc j) from i e h f =
      omega (
        arith,
        first_miss l from d (omega arith) (f from (omega arith) (omega arith)),
        first_past l d j (from + 1) i (omega arith) h (λ k a b. f k (omega arith) b),
      )

  -- what a search over a range said of thing i, where there is one
  abbrev pub Said : List A → A → Bool → ℕ → Type 0
  Said l d b i = i < length l → t (get_or l i d) ≡ b

  -- what a search of the things from `from` on came to
  pub first_found : (l : List A) (d : A) (from : ℕ) → from ≤ length l → (r : Option ℕ)
      → MatchOption r ((k : ℕ) → from ≤ k → k < length l → Said l d false k)
      (λ i. (from ≤ i) × (i < length l) × Said l d true i × ((k : ℕ) → from ≤ k → k < i → Said l d false k))
      → MatchOption r (length l ≡ from + first_by t (drop from l)) (λ i. (i < length l) × (i ≡ from + first_by t (drop from l)))
  first_found l d from h None f =
      sym (first_past l d (length l - from) from (length l) (omega arith) (omega arith) (λ k a b. f k a b b) ∙ omega (arith, first_none l (length l) (omega arith)))
  first_found l d from h (Some i) (a, b, e, f) =
      let p : from + first_by t (drop from l) ≡ i + first_by t (drop i l)
      = first_past l d (i - from) from i (omega arith) (omega arith) (λ k c q. f k c q (omega arith)) in
      (b, sym (p ∙ omega (arith, first_hit l i d b (e b))))

-- ---- of the slots of memory: t is what is asked, from slot `from` on

abbrev pub SaidOfSlot : (Slot Tail → Bool) → List ℕ → Bool → ℕ → Type 0
SaidOfSlot t m b i = i < 16 → t (get_or (state_of m).slots i free) ≡ b

pub slot_found : (t : Slot Tail → Bool) (m : List ℕ) (from : ℕ) → from ≤ 16 → (r : Option ℕ)
    → MatchOption r ((k : ℕ) → from ≤ k → k < 16 → SaidOfSlot t m false k)
    (λ i. (from ≤ i) × (i < 16) × SaidOfSlot t m true i × ((k : ℕ) → from ≤ k → k < i → SaidOfSlot t m false k))
    → FoundSlot t m from r
slot_found t m from h None f =
    record { inside = tt; is = sym (sixteen m) ∙ first_found t (state_of m).slots free from (rw (sixteen m) h) None (rw (sixteen m) f) }
slot_found t m from h (Some i) f =
    record { inside = f.1; is = (first_found t (state_of m).slots free from (rw (sixteen m) h) (Some i) (rw (sixteen m) f)).1 }
