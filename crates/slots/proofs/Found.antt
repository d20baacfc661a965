-- The slot that a call speaks of, and what a refused call leaves.
use mathlib.Core.Path.{◌≡◌, refl, sym}
use mathlib.Core.List.{List}
use Prim.Native.Nat.{ℕ, ◌≤◌}
use native.Mathlib.Omega.{arith}
use Rattle.std.proofs.Common.{Some, None}
use lib.ListN.{length, take, drop, get_or-eq_default}
use Rattle.wire.proofs.Words.{Octets, octets_below}
use Rattle.stream.specs.Tail.{Tail}
use Rattle.rules.specs.State.{free, peer, is_free, is_peer, first_by}
use Rattle.rules.specs.Calls.{Step, stays, slot_at}
use Rattle.memory.specs.Layout.{slot_length, slot_start}
use Rattle.memory.specs.Encoding.{slot_bytes, state_of}
use Rattle.memory.specs.Sound.{Held}
use Rattle.memory.specs.Calls.{stored, Did}
use Rattle.memory.proofs.Reading.{sixteen}
use Rattle.memory.specs.Places.{FoundSlot}
use Rattle.memory.proofs.Find.{found_first, found_some, found_is, found_free}
use Rattle.memory.proofs.Good.{good_is}
use Rattle.memory.proofs.Held.{held_free, Counted, held_counted}
use Rattle.slots.specs.Slots.{peer_at, Seated}

-- a step that changes nothing leaves the memory as it is
pub did_stay : {R : Type 0} (m : List ℕ) → Octets m → Held m → (r : R) (s : Step Tail R) → s ≡ stays (state_of m) r → Did (stored s) r m
did_stay m f g r s e = rw e (record { result = refl; memory = sym (good_is m (octets_below m f) g.held) })

-- ---- the peer of a number

pub peer_none : (n : ℕ) (m : List ℕ) → FoundSlot (is_peer n) m 0 None → slot_at (state_of m) (first_by (is_peer n) (state_of m).slots) ≡ free
peer_none n m f =
    let l : length (state_of m).slots ≤ 16 = rw (sixteen m) (omega arith) in
    rw (found_first (is_peer n) m None f) (get_or-eq_default (state_of m).slots free l)

module _ (n : ℕ) (m : List ℕ) (i : ℕ) (f : FoundSlot (is_peer n) m 0 (Some i)) where
  pub peer_place : first_by (is_peer n) (state_of m).slots ≡ i
  peer_place = found_first (is_peer n) m (Some i) f

  pub peer_some : slot_at (state_of m) i ≡ peer (peer_at m i)
  peer_some = found_is n m 0 i f

  pub peer_seated : Held m → Seated m i
  peer_seated g = record { sized = g.sized; held = g; below = f.inside; some = found_some n m 0 i f }

pub counted : (m : List ℕ) (i : ℕ) → Seated m i → Counted m (slot_start i)
counted m i g = held_counted m i g.held g.below g.some

-- ---- a free slot

pub free_part : (m : List ℕ) (i : ℕ) → Held m → FoundSlot is_free m 0 (Some i) → take slot_length (drop (slot_start i) m) ≡ slot_bytes free
free_part m i g f = held_free m i g f.inside (found_free m 0 i f)
