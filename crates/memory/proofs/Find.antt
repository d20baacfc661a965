-- The slots by the number that stands in each: whether one is free, whose it is, and what a search for either found.
use Rattle.std.proofs.Common.{Bool, true, false, List, ◌≡◌, refl, sym, ap, ◌∙◌, ℕ, ◌+◌, ◌-◌, ◌≤◌, ◌<◌, eqb, arith, rules, length, get_or, drop, length-drop}
use Rattle.std.proofs.Common.{zero-add, Option, Some, None, unwrap_or}
use mathlib.Core.Bool.{false≢true}
use native.Mathlib.Decide.{ℕ_discrete}
use lib.Seq.{get_or-drop}
use borrow.Author.Tests.{eq-eqb, ne_eqb, eqb-true}
use Rattle.stream.specs.Tail.{Tail}
use Rattle.rules.specs.State.{Slot, free, peer, is_free, is_peer, first_by}
use Rattle.rules.proofs.First.{first_passes}
use Rattle.memory.specs.Layout.{slot_start}
use Rattle.memory.specs.Encoding.{state_of}
use Rattle.memory.specs.Places.{number_at, peer_from, FoundSlot}
use Rattle.memory.proofs.Reading.{sixteen, slot_free, slot_peer}
use Rattle.memory.proofs.Search.{slot_found}

-- ---- what the number in slot i says of it

pub free_is : (m : List ℕ) (i : ℕ) → i < 16 → is_free (get_or (state_of m).slots i free) ≡ eqb (number_at m i) 0
free_is m i h = elim (ℕ_discrete (number_at m i) 0) [
  | yes z ↦ rw (slot_free m i h z) (sym (eq-eqb (number_at m i) 0 z))
  | no z ↦ rw (slot_peer m i h z) (sym (ne_eqb (number_at m i) 0 z))
]

-- no slot is that of number 0
pub peer_is : (n : ℕ) (m : List ℕ) (i : ℕ) → i < 16 → (n ≡ 0 → ⊥) → is_peer n (get_or (state_of m).slots i free) ≡ eqb (number_at m i) n
peer_is n m i h d = elim (ℕ_discrete (number_at m i) 0) [
  | yes z ↦ rw (slot_free m i h z) (sym (ne_eqb (number_at m i) n (λ q. d (sym q ∙ z))))
  | no z ↦ rw (slot_peer m i h z)
]

nobody : (m : List ℕ) (i : ℕ) → i < 16 → is_peer 0 (get_or (state_of m).slots i free) ≡ false
nobody m i h = elim (ℕ_discrete (number_at m i) 0) [
  | yes z ↦ rw (slot_free m i h z)
  | no z ↦ rw (slot_peer m i h z) (ne_eqb (number_at m i) 0 z)
]

pub peer_nobody : (n : ℕ) (m : List ℕ) (from : ℕ) → n ≡ 0 → from ≤ 16 → FoundSlot (is_peer n) m from None
peer_nobody n m from e h = rw e (slot_found (is_peer 0) m from h None (λ k a b c. nobody m k b))

-- ---- what was found

pub found_first : (t : Slot Tail → Bool) (m : List ℕ) (r : Option ℕ) → FoundSlot t m 0 r → first_by t (state_of m).slots ≡ unwrap_or r 16
found_first t m r f = sym (f.is ∙ zero-add (first_by t (state_of m).slots))

pub found_passes : (t : Slot Tail → Bool) (m : List ℕ) (from r : ℕ) → FoundSlot t m from (Some r) → t (get_or (state_of m).slots r free) ≡ true
found_passes t m from r f =
    let s : List (Slot Tail) = (state_of m).slots in
    let h : r < 16 = f.inside in
    let j = first_by t (drop from s) in
    let e : r ≡ from + j = f.is in
    let l : length (drop from s) ≡ 16 - from = length-drop from s ∙ ap (λ (n : ℕ). n - from) (sixteen m) in
    let p : t (get_or (drop from s) j free) ≡ true = first_passes t (drop from s) free (omega arith) in
    rw (e, ← get_or-drop from s j free) p

-- a peer that was found stands there, with the number that was asked for
module _ (n : ℕ) (m : List ℕ) (from r : ℕ) (f : FoundSlot (is_peer n) m from (Some r)) where
  passed : is_peer n (get_or (state_of m).slots r free) ≡ true
  passed = found_passes (is_peer n) m from r f

  pub found_some : number_at m r ≡ 0 → ⊥
  found_some z = false≢true (ap (is_peer n) (sym (slot_free m r f.inside z)) ∙ passed)

  pub found_is : get_or (state_of m).slots r free ≡ peer (peer_from m (slot_start r))
  found_is = slot_peer m r f.inside found_some

  pub found_number : number_at m r ≡ n
  found_number = eqb-true (number_at m r) n (ap (is_peer n) (sym found_is) ∙ passed)

pub found_free : (m : List ℕ) (from r : ℕ) → FoundSlot is_free m from (Some r) → number_at m r ≡ 0
found_free m from r f = eqb-true (number_at m r) 0 (sym (free_is m r f.inside) ∙ found_passes is_free m from r f)
