-- Calls that end without a reply: by which test, and what is then left of a table, of a slot and of memory (rules 8.7 and 8.12).
use Rattle.std.specs.Prelude.{Bool, List, ◌≡◌, ℕ, ◌≤◌, ◌<◌, length, take, drop}
use Rattle.rules.specs.State.{Pending}
use Rattle.rules.specs.Pending.{is_to, expired, ended_where, count_where, remove_calls, count_slot, count_in}
use Rattle.tables.specs.Tables.{table_bytes}
use Rattle.memory.specs.Layout.{slot_start, memory_length, slot_length, call_width, call_room}
use Rattle.memory.specs.Encoding.{pending_bytes, slot_bytes, slot_of, memory_of, state_of}
use Rattle.memory.specs.Places.{put_at, changed, mapped}
use Rattle.endings.specs.declared.Ending.{Ending}
use Rattle.endings.specs.declared.Ending.TheVariants.{To, Aged}

-- which calls end
abbrev pub test_of : Ending → Pending → Bool
test_of (To callee) = is_to callee
test_of (Aged tick limit) = expired tick limit

-- the closure answers, by a call's callee and tick, whether the call passes the test
abbrev pub EndsBy : (ℕ → ℕ → Bool → Type 0) → (Pending → Bool) → Type 0
EndsBy tells t = (w : Pending) → w.callee < 4294967296 → w.tick < 18446744073709551616 → (r : Bool) → tells w.callee w.tick r → r ≡ t w

-- the bytes of slot i
abbrev pub part_at : List ℕ → ℕ → List ℕ
part_at m i = take slot_length (drop (slot_start i) m)

-- the bytes of slot i are those of the slot that is read off them
pub record PlainSlot (m : List ℕ) (i : ℕ) : Type 0 where
  pub sized : length m ≡ memory_length
  pub below : i < 16
  pub plain : slot_bytes (slot_of (part_at m i)) ≡ part_at m i

-- memory is the bytes of the state that is read off it
pub record Encoded (m : List ℕ) : Type 0 where
  pub sized : length m ≡ memory_length
  pub is : memory_of (state_of m) ≡ m

-- those that pass the test have ended in slot i
unfoldable pub ended_at : List ℕ → ℕ → (Pending → Bool) → List ℕ
ended_at m i t = put_at m i (changed (remove_calls t) (part_at m i))

-- and in every slot
unfoldable pub ended_for : List ℕ → (Pending → Bool) → List ℕ
ended_for m t = memory_of (mapped (remove_calls t) (state_of m))

-- ---- what is left, and how many they were

pub record EndedCalls (t : Pending → Bool) (ws : List Pending) (r : ℕ) (table : List ℕ) : Type 0 where
  pub left : table ≡ table_bytes call_width call_room pending_bytes (ended_where t ws)
  pub count : r ≡ count_where t ws
  pub few : r ≤ call_room

pub record EndedSlot (t : Pending → Bool) (m : List ℕ) (i r : ℕ) (m' : List ℕ) : Type 0 where
  pub left : m' ≡ ended_at m i t
  pub count : r ≡ count_slot t (slot_of (part_at m i))
  pub few : r ≤ call_room

pub record EndedAll (t : Pending → Bool) (m : List ℕ) (r : ℕ) (m' : List ℕ) : Type 0 where
  pub left : m' ≡ ended_for m t
  pub count : r ≡ count_in t (state_of m).slots
  pub sized : length m' ≡ memory_length
