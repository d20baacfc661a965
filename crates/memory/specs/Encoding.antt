-- What a state is in bytes, and what bytes say (rule 10.2). Each part has its length whatever the state is.
use Rattle.std.specs.Prelude.{cond, List, ◌++◌, map, ℕ, ◌+◌, min, eqb, length, take, drop, replicate}
use Rattle.wire.specs.Bytes.{pad}
use Rattle.wire.specs.Words.{word_at, long_at, word_bytes, long_bytes}
use Rattle.wire.specs.declared.Order.TheVariants.{Little}
use Rattle.tables.specs.Tables.{cells, parts, table_bytes, table_of}
use Rattle.policy.specs.Names.{cell_of, name_of, name_width}
use Rattle.stream.specs.Tail.{Tail}
use Rattle.rules.specs.State.{Pending, Peer, Slot, free, peer, State}
use Rattle.memory.specs.Layout.{slot_length, tick_at, slots_at, uid_at, gids_at, gid_width, gid_room, pending_at, serial_offset, tick_offset, call_width, call_room}
use Rattle.memory.specs.Layout.{names_at, name_room, taken_at, head_at, first_byte, head_room, rest_length}

-- ---- what a state is in bytes (rule 10.2)

abbrev pub pending_bytes : Pending → List ℕ
pending_bytes w = word_bytes w.callee ++ (word_bytes w.serial ++ long_bytes w.tick)

-- a head and its room
unfoldable pub head_bytes : List ℕ → List ℕ
head_bytes h = word_bytes (length h) ++ pad head_room h

abbrev pub stream_bytes : Tail → List ℕ
stream_bytes t = word_bytes t.taken ++ head_bytes t.head

-- what stands behind the stream (rule 10.5)
unfoldable pub rest_bytes : List ℕ
rest_bytes = replicate rest_length 0

unfoldable pub peer_bytes : Peer Tail → List ℕ
peer_bytes p =
    word_bytes p.number
    ++ (word_bytes p.uid
    ++ (table_bytes gid_width gid_room word_bytes p.gids
    ++ (table_bytes call_width call_room pending_bytes p.pending
    ++ (table_bytes name_width name_room cell_of p.names ++ (stream_bytes p.stream ++ rest_bytes)))))

-- a free slot is zeros (rule 10.5)
unfoldable pub slot_bytes : Slot Tail → List ℕ
slot_bytes free = replicate slot_length 0
slot_bytes (peer p) = peer_bytes p

-- the last number and the last tick
unfoldable pub clock_bytes : State Tail → List ℕ
clock_bytes s = word_bytes s.last ++ long_bytes s.tick

unfoldable pub memory_of : State Tail → List ℕ
memory_of s = clock_bytes s ++ cells slot_bytes s.slots

-- ---- what bytes say (rule 10.2)

abbrev pub word_of : List ℕ → ℕ
word_of b = word_at Little b 0

abbrev pub pending_of : List ℕ → Pending
pending_of b = record { callee = word_at Little b 0; serial = word_at Little b serial_offset; tick = long_at b tick_offset }

unfoldable pub slot_tail : List ℕ → Tail
slot_tail b =
    record { taken = word_at Little b taken_at; head = take (min (word_at Little b head_at) head_room) (drop first_byte b) }

unfoldable pub peer_of : List ℕ → Peer Tail
peer_of b =
    record {
      number = word_at Little b 0;
      uid = word_at Little b uid_at;
      gids = table_of gid_width gid_room word_of (drop gids_at b);
      pending = table_of call_width call_room pending_of (drop pending_at b);
      names = table_of name_width name_room name_of (drop names_at b);
      stream = slot_tail b;
    }

-- a slot whose number is 0 is free (rule 10.2)
unfoldable pub slot_of : List ℕ → Slot Tail
slot_of b = cond (eqb (word_at Little b 0) 0) free (peer (peer_of b))

unfoldable pub state_of : List ℕ → State Tail
state_of m = record { last = word_at Little m 0; tick = long_at m tick_at; slots = map slot_of (parts slot_length 16 (drop slots_at m)) }
