-- What stands in the slots of a memory, by its place; a slot's bytes put; the first slot that passes a test (rules 10.1 and 10.2).
use Rattle.std.specs.Prelude.{Bool, List, ◌++◌, map, ◌≡◌, ℕ, ◌+◌, ◌<◌, min, take, drop, Option, IfSome, unwrap_or}
use Rattle.wire.specs.Words.{word_at, word_bytes}
use Rattle.wire.specs.declared.Order.TheVariants.{Little}
use Rattle.tables.specs.Tables.{parts, table_of, used}
use Rattle.policy.specs.Names.{name_of, name_width}
use Rattle.stream.specs.Tail.{Tail}
use Rattle.rules.specs.State.{Peer, Slot, State, first_by}
use Rattle.memory.specs.Layout.{slot_length, slot_start, gids_at, gid_width, gid_room, pending_at, first_callee, call_width, call_room}
use Rattle.memory.specs.Layout.{names_at, name_room, taken_at, head_at, first_byte, head_room, uid_at}
use Rattle.memory.specs.Encoding.{word_of, pending_of, slot_bytes, slot_of, state_of}

-- ---- the peer whose slot begins at a

abbrev pub tail_from : List ℕ → ℕ → Tail
tail_from m a = record { taken = word_at Little m (a + taken_at); head = take (min (word_at Little m (a + head_at)) head_room) (drop (a + first_byte) m) }

abbrev pub peer_from : List ℕ → ℕ → Peer Tail
peer_from m a =
    record {
      number = word_at Little m a;
      uid = word_at Little m (a + uid_at);
      gids = table_of gid_width gid_room word_of (drop (a + gids_at) m);
      pending = table_of call_width call_room pending_of (drop (a + pending_at) m);
      names = table_of name_width name_room name_of (drop (a + names_at) m);
      stream = tail_from m a;
    }

-- the number that stands in slot i
abbrev pub number_at : List ℕ → ℕ → ℕ
number_at m i = word_at Little m (slot_start i)

-- ---- the pending calls of slot i, used or free

-- its stored count of them (rule 10.2)
abbrev pub count_at : List ℕ → ℕ → ℕ
count_at m i = word_at Little m (slot_start i + pending_at)

-- the records that stand behind the count, all zeros being none (rule 10.2)
abbrev pub records_at : List ℕ → ℕ → ℕ
records_at m i = used (parts call_width call_room (drop (slot_start i + first_callee) m))

-- m with n for the count of slot i
abbrev pub count_put : List ℕ → ℕ → ℕ → List ℕ
count_put m i n = take (slot_start i + pending_at) m ++ (word_bytes n ++ drop (slot_start i + first_callee) m)

-- ---- the slots in turn

-- what a search of the slots from `from` on comes to: the first that passes the test, or none
pub record FoundSlot (t : Slot Tail → Bool) (m : List ℕ) (from : ℕ) (r : Option ℕ) : Type 0 where
  pub inside : IfSome r (λ i. i < 16)
  pub is : unwrap_or r 16 ≡ from + first_by t (drop from (state_of m).slots)

-- ---- a slot's bytes put

-- m with the bytes y for those of slot i
abbrev pub put_at : List ℕ → ℕ → List ℕ → List ℕ
put_at m i y = take (slot_start i) m ++ (y ++ drop (slot_start i + slot_length) m)

-- a slot's bytes after f
abbrev pub changed : (Slot Tail → Slot Tail) → List ℕ → List ℕ
changed f b = slot_bytes (f (slot_of b))

abbrev pub mapped : (Slot Tail → Slot Tail) → State Tail → State Tail
mapped f s = record { last = s.last; tick = s.tick; slots = map f s.slots }
