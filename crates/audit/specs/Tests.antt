-- What the test of memory asks of one name and of one pending call of a slot, each a line of `good_names` and `good_pending`; and of its shape.
use Rattle.std.specs.Prelude.{Bool, true, not, ◌&&◌, ◌≡◌, List, ℕ, ◌+◌, ◌-◌, ◌*◌, leb, take, drop}
use Rattle.wire.specs.Bytes.{all_zero, same}
use Rattle.wire.specs.Lists.{any, every}
use Rattle.wire.specs.Words.{word_at, long_at}
use Rattle.wire.specs.declared.Order.TheVariants.{Little}
use Rattle.policy.specs.Names.{owns, cell_of, name_of, name_width}
use Rattle.rules.specs.State.{is_peer}
use Rattle.rules.specs.Addresses.{ownable}
use Rattle.rules.specs.Pending.{awaits}
use Rattle.rules.specs.Calls.{is_owner}
use Rattle.tables.specs.Tables.{plain_cells}
use Rattle.memory.specs.Layout.{slot_length, slot_start, gids_at, gid_width, gid_room, pending_at, first_callee, first_serial, first_tick, call_width}
use Rattle.memory.specs.Layout.{call_room, names_at, first_name, name_room, head_at, head_room, first_byte}
use Rattle.memory.specs.Encoding.{slot_bytes, slot_of, state_of}
use Rattle.memory.specs.Good.{nobody, good_slot}
use Rattle.slots.specs.Slots.{peer_at, name_at}

unfoldable pub name_test : List ℕ → ℕ → ℕ → Bool
name_test m i j =
    ownable (name_at m i j)
    && nobody (is_owner (name_at m i j)) (drop (i + 1) (state_of m).slots)
    && not (owns (drop (j + 1) (peer_at m i).names) (name_at m i j))

-- the callee, the serial and the tick of pending call j
abbrev pub callee_at : List ℕ → ℕ → ℕ → ℕ
callee_at m i j = word_at Little m (slot_start i + (first_callee + call_width * j))

abbrev pub serial_at : List ℕ → ℕ → ℕ → ℕ
serial_at m i j = word_at Little m (slot_start i + (first_serial + call_width * j))

abbrev pub call_tick_at : List ℕ → ℕ → ℕ → ℕ
call_tick_at m i j = long_at m (slot_start i + (first_tick + call_width * j))

-- the serials of the pending calls of slot i from j on are n or more
pub record Above (m : List ℕ) (i j n : ℕ) : Type 0 where
  pub are : every (λ w. leb n w.serial) (drop j (peer_at m i).pending) ≡ true

unfoldable pub call_test : List ℕ → ℕ → ℕ → ℕ → Bool
call_test m i j tick =
    any (is_peer (callee_at m i j)) (state_of m).slots
    && leb 1 (serial_at m i j)
    && leb (call_tick_at m i j) tick
    && not (awaits (callee_at m i j) (serial_at m i j) (drop (j + 1) (peer_at m i).pending))

-- ---- shape: zeros behind what a slot holds (rule 10.5)

-- a table at a place has at most k things of w bytes, and zeros behind them
unfoldable pub table_test : List ℕ → ℕ → ℕ → ℕ → Bool
table_test m at w k =
    leb (word_at Little m at) k
    && all_zero (take (w * k - w * word_at Little m at) (drop (at + 4 + w * word_at Little m at) m))

-- behind name j of slot i its cell is zero
unfoldable pub plain_cell : List ℕ → ℕ → ℕ → Bool
plain_cell m i j =
    let c = take name_width (drop (slot_start i + first_name + name_width * j) m) in
    same (cell_of (name_of c)) c

-- the names of slot i are at most 4, with zeros behind each and behind the last
unfoldable pub cells_test : List ℕ → ℕ → Bool
cells_test m i =
    leb (word_at Little m (slot_start i + names_at)) name_room
    && plain_cells cell_of name_of name_width (word_at Little m (slot_start i + names_at)) (take (name_width * name_room) (drop (slot_start i + first_name) m))

-- the head of the slot that begins at a has at most its room, and zeros behind it up to the end of the slot
abbrev pub head_from : List ℕ → ℕ → Bool
head_from m a =
    leb (word_at Little m (a + head_at)) head_room
    && all_zero (take (a + slot_length - (a + first_byte + word_at Little m (a + head_at))) (drop (a + first_byte + word_at Little m (a + head_at)) m))

unfoldable pub head_test : List ℕ → ℕ → Bool
head_test m i = head_from m (slot_start i)

unfoldable pub shape_test : List ℕ → ℕ → Bool
shape_test m i =
    table_test m (slot_start i + gids_at) gid_width gid_room
    && table_test m (slot_start i + pending_at) call_width call_room
    && cells_test m i
    && head_test m i

-- ---- a slot

-- slot i keeps the rules beside the slots after it, and is the bytes of what is read off it
unfoldable pub slot_test : List ℕ → ℕ → ℕ → ℕ → Bool
slot_test m i last tick =
    let b = take slot_length (drop (slot_start i) m) in
    good_slot (state_of m).slots last tick (slot_of b) (drop (i + 1) (state_of m).slots) && same (slot_bytes (slot_of b)) b
