-- Slots in bytes: each is as long whatever it holds, so that a slot is put by its bytes alone, and the others stay.
use mathlib.Core.List.{List, ◌++◌, append_assoc}
use mathlib.Core.Path.{◌≡◌, refl, ap₂, ◌∙◌}
use Prim.Native.Nat.{ℕ, ◌+◌, ◌*◌, ◌<◌}
use native.Mathlib.Omega.{arith}
use lib.ListN.{length, get_or, take, drop, replicate, length-append, length-replicate, replicate-append-replicate}
use lib.Seq.{take_at, drop_at, drop-drop}
use Rattle.wire.specs.Bytes.{pad}
use Rattle.wire.specs.Words.{word_bytes, long_bytes}
use Rattle.wire.proofs.Words.{word_length}
use Rattle.wire.proofs.Longs.{long_length}
use Rattle.wire.proofs.Texts.{pad_length}
use Rattle.tables.specs.Tables.{cells}
use Rattle.wire.proofs.Parts.{take_past, drop_past}
use Rattle.tables.proofs.Cells.{cells_length, cells_put, cells_at, cells_zeros}
use Rattle.tables.proofs.Table.{table_length}
use Rattle.policy.specs.Names.{name_limit, cell_of, name_width}
use Rattle.stream.specs.Tail.{Tail}
use Rattle.rules.specs.State.{Pending, Peer, Slot, free, peer, State, put_slot}
use Rattle.rules.specs.Calls.{empty}
use Rattle.memory.specs.Layout.{memory_length, tick_at, slots_at, slot_length, slot_start, call_width, head_room, kept_length, rest_length}
use Rattle.memory.specs.Encoding.{pending_bytes, head_bytes, rest_bytes, peer_bytes, slot_bytes, clock_bytes, memory_of}

-- ---- widths

pub pending_length_lem : (w : Pending) → length (pending_bytes w) ≡ call_width
pending_length_lem w = simp (length-append, word_length, long_length)

pub cell_length : (name : List ℕ) → length (cell_of name) ≡ name_width
unfolding cell_of
cell_length name = omega (arith, pad_length name_limit name)

pub head_length_lem : (h : List ℕ) → length (head_bytes h) ≡ kept_length
unfolding head_bytes
head_length_lem h = length-append (word_bytes (length h)) (pad head_room h) ∙ omega (arith, word_length (length h), pad_length head_room h)

pub rest_length_lem : length rest_bytes ≡ rest_length
unfolding rest_bytes
rest_length_lem = length-replicate {A = ℕ} rest_length 0

pub peer_length : (p : Peer Tail) → length (peer_bytes p) ≡ slot_length
unfolding peer_bytes
peer_length p = simp (length-append, word_length, table_length, head_length_lem, rest_length_lem)

pub slot_length_lem : (x : Slot Tail) → length (slot_bytes x) ≡ slot_length
unfolding slot_bytes
slot_length_lem free = length-replicate {A = ℕ} slot_length 0
slot_length_lem (peer p) = peer_length p

pub clock_length : (s : State Tail) → length (clock_bytes s) ≡ slots_at
unfolding clock_bytes
clock_length s = simp (length-append, word_length, long_length)

pub memory_length_lem : (s : State Tail) → length s.slots ≡ 16 → length (memory_of s) ≡ memory_length
unfolding memory_of
memory_length_lem s e =
    length-append (clock_bytes s) (cells slot_bytes s.slots)
    ∙ omega (arith, cells_length slot_length slot_bytes slot_length_lem s.slots, clock_length s)

-- ---- frames

-- the slots begin after the last number and the last tick
pub memory_slots : (s : State Tail) → drop slots_at (memory_of s) ≡ cells slot_bytes s.slots
unfolding memory_of
memory_slots s = drop_at (clock_bytes s) (cells slot_bytes s.slots) slots_at (clock_length s)

-- slot i put by its bytes
pub put_memory : (s : State Tail) (i : ℕ) (x : Slot Tail) → i < length s.slots
    → memory_of (put_slot s i x) ≡ take (slot_start i) (memory_of s) ++ (slot_bytes x ++ drop (slot_start i + slot_length) (memory_of s))
unfolding memory_of clock_bytes
put_memory s i x h =
    let e : slot_start i + slot_length ≡ slots_at + (slot_length * i + slot_length) = omega arith in
    rw (
      e,
      take_past (clock_bytes s) (cells slot_bytes s.slots) slots_at (slot_length * i) (clock_length s),
      drop_past (clock_bytes s) (cells slot_bytes s.slots) slots_at (slot_length * i + slot_length) (clock_length s),
      cells_put slot_length slot_bytes slot_length_lem s.slots i x h,
      append_assoc (clock_bytes s),
    )

-- the last number put by its bytes
pub put_last : (s : State Tail) (n : ℕ) → memory_of (record { last = n; tick = s.tick; slots = s.slots }) ≡ word_bytes n ++ drop tick_at (memory_of s)
unfolding memory_of clock_bytes
put_last s n =
    rw (
      append_assoc (word_bytes s.last),
      append_assoc (word_bytes n),
      drop_at (word_bytes s.last) (long_bytes s.tick ++ cells slot_bytes s.slots) tick_at (word_length s.last),
    )

-- the last tick put by its bytes
pub put_tick : (s : State Tail) (k : ℕ)
    → memory_of (record { last = s.last; tick = k; slots = s.slots }) ≡ take tick_at (memory_of s) ++ (long_bytes k ++ drop slots_at (memory_of s))
unfolding memory_of clock_bytes
put_tick s k =
    let w = word_bytes s.last in
    let c = cells slot_bytes s.slots in
    rw (memory_slots s, append_assoc w (long_bytes s.tick) c, append_assoc w (long_bytes k) c, take_at w (long_bytes s.tick ++ c) tick_at (word_length s.last))

-- slot i stands at its place
pub memory_at : (s : State Tail) (i : ℕ) → i < length s.slots
    → take slot_length (drop (slot_start i) (memory_of s)) ≡ slot_bytes (get_or s.slots i free)
memory_at s i h =
    rw (← drop-drop (slot_length * i) slots_at (memory_of s), memory_slots s) (cells_at slot_length slot_bytes slot_length_lem s.slots i free h)

-- ---- the empty guard

pub word_zero : word_bytes 0 ≡ replicate 4 0
unfolding word_bytes
word_zero = refl

pub free_bytes : slot_bytes free ≡ replicate slot_length 0
unfolding slot_bytes
free_bytes = refl

long_zero : long_bytes 0 ≡ replicate 8 0
unfolding long_bytes word_bytes
long_zero = refl

clock_zero : clock_bytes empty ≡ replicate slots_at 0
unfolding clock_bytes
clock_zero = ap₂ ◌++◌ word_zero long_zero ∙ replicate-append-replicate {A = ℕ} tick_at 8 0

pub empty_bytes : memory_of empty ≡ replicate memory_length 0
unfolding memory_of
empty_bytes = ap₂ ◌++◌ clock_zero (cells_zeros slot_length slot_bytes free free_bytes 16) ∙ replicate-append-replicate {A = ℕ} slots_at (slot_length * 16) 0
