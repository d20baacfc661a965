-- What memory says: where each slot stands, and each field of it, by its place in memory.
use mathlib.Core.List.{List, [], ◌∷◌}
use mathlib.Core.Path.{◌≡◌, refl, sym, ap, ◌∙◌}
use Prim.Native.Nat.{ℕ, ◌+◌, ◌*◌, ◌<◌, min, ◌-◌}
use native.Mathlib.Omega.{arith}
use native.Mathlib.Nat.{add-zero}
use lib.ListN.{length, get_or, take, drop, length-map, get_or-map}
use lib.Seq.{drop-drop, take-take}
use borrow.Author.Tests.{ne_eqb}
use Rattle.wire.specs.Words.{word_at, long_at}
use Rattle.wire.specs.declared.Order.TheVariants.{Little}
use Rattle.wire.proofs.Words.{word_drop}
use Rattle.wire.proofs.Longs.{long_part}
use Rattle.tables.specs.Tables.{parts}
use Rattle.wire.proofs.Parts.{drop_take}
use Rattle.tables.proofs.Words.{word_take, word_part, word_front}
use Rattle.tables.proofs.Cells.{parts_length, parts_at}
use Rattle.tables.proofs.Table.{table_take, table_many, table_next}
use Rattle.policy.specs.Names.{name_of, name_width}
use Rattle.rules.specs.State.{free, peer}
use Rattle.memory.specs.Layout.{slot_length, slot_start, gids_at, first_gid, gid_width, gid_room, pending_at, first_callee, first_serial, first_tick, call_width, call_room}
use Rattle.memory.specs.Layout.{names_at, first_name, name_room, taken_at, head_at, first_byte, head_room, tick_at, slots_at, uid_at, serial_offset, tick_offset}
use Rattle.memory.specs.Encoding.{word_of, pending_of, slot_tail, peer_of, slot_of, state_of}
use Rattle.memory.specs.Places.{peer_from, number_at}

-- ---- sixteen slots

pub sixteen : (m : List ℕ) → length (state_of m).slots ≡ 16
unfolding state_of
sixteen m = length-map (parts slot_length 16 (drop slots_at m)) slot_of ∙ parts_length slot_length 16 (drop slots_at m)

pub last_at : (m : List ℕ) → (state_of m).last ≡ word_at Little m 0
unfolding state_of
last_at m = refl

pub tick_at_lem : (m : List ℕ) → (state_of m).tick ≡ long_at m tick_at
unfolding state_of
tick_at_lem m = refl

pub slot_part : (m : List ℕ) (i : ℕ) → i < 16 → get_or (parts slot_length 16 (drop slots_at m)) i [] ≡ take slot_length (drop (slot_start i) m)
slot_part m i h = parts_at slot_length 16 (drop slots_at m) i h ∙ ap (take slot_length) (drop-drop (slot_length * i) slots_at m)

no_bytes : slot_of [] ≡ free
unfolding slot_of word_at
no_bytes = refl

pub slot_at : (m : List ℕ) (i : ℕ) → i < 16 → get_or (state_of m).slots i free ≡ slot_of (take slot_length (drop (slot_start i) m))
unfolding state_of
slot_at m i h =
    rw (← no_bytes) (get_or-map slot_of (parts slot_length 16 (drop slots_at m)) i [] ∙ ap slot_of (slot_part m i h))

-- ---- a slot is read no further than it reaches

tail_take : (d : List ℕ) → slot_tail (take slot_length d) ≡ slot_tail d
unfolding slot_tail
tail_take d =
    rw (word_take d slot_length taken_at (omega arith), word_take d slot_length head_at (omega arith), drop_take first_byte (slot_length - first_byte) d)
    (λ j. record {
      taken = word_at Little d taken_at;
      head = take-take (min (word_at Little d head_at) head_room) (slot_length - first_byte) (drop first_byte d) (omega arith) j;
    })

pub peer_take : (d : List ℕ) → peer_of (take slot_length d) ≡ peer_of d
unfolding peer_of
peer_take d =
    rw (
      word_take d slot_length 0 (omega arith),
      word_take d slot_length uid_at (omega arith),
      drop_take gids_at (slot_length - gids_at) d,
      drop_take pending_at (slot_length - pending_at) d,
      drop_take names_at (slot_length - names_at) d,
      table_take gid_width gid_room word_of (drop gids_at d) (slot_length - gids_at) (omega arith),
      table_take call_width call_room pending_of (drop pending_at d) (slot_length - pending_at) (omega arith),
      table_take name_width name_room name_of (drop names_at d) (slot_length - names_at) (omega arith),
      tail_take d,
    )

pub slot_take : (d : List ℕ) → slot_of (take slot_length d) ≡ slot_of d
unfolding slot_of
slot_take d = rw (word_take d slot_length 0 (omega arith), peer_take d)

-- a part of memory that is a free slot, or a peer's
pub part_free : (b : List ℕ) → word_at Little b 0 ≡ 0 → slot_of b ≡ free
unfolding slot_of
part_free b e = rw e

pub part_peer : (b : List ℕ) → (word_at Little b 0 ≡ 0 → ⊥) → slot_of b ≡ peer (peer_of b)
unfolding slot_of
part_peer b e = rw (ne_eqb (word_at Little b 0) 0 e)

-- ---- the peer whose slot begins at a

pub peer_from_lem : (m : List ℕ) (a : ℕ) → peer_of (drop a m) ≡ peer_from m a
unfolding peer_of slot_tail
peer_from_lem m a = simp (word_drop, drop-drop, add-zero)

-- the number that stands in the bytes of slot i
pub part_number : (m : List ℕ) (i : ℕ) → word_at Little (take slot_length (drop (slot_start i) m)) 0 ≡ number_at m i
part_number m i = word_part m (slot_start i) slot_length 0 (omega arith) ∙ ap (word_at Little m) (add-zero (slot_start i))

pub slot_free : (m : List ℕ) (i : ℕ) → i < 16 → number_at m i ≡ 0 → get_or (state_of m).slots i free ≡ free
slot_free m i h e =
    let d = drop (slot_start i) m in
    slot_at m i h ∙ slot_take d ∙ part_free d (word_front m (slot_start i) ∙ e)

pub slot_peer : (m : List ℕ) (i : ℕ) → i < 16 → (number_at m i ≡ 0 → ⊥) → get_or (state_of m).slots i free ≡ peer (peer_from m (slot_start i))
slot_peer m i h e =
    let d = drop (slot_start i) m in
    slot_at m i h
    ∙ slot_take d
    ∙ part_peer d (λ z. e (sym (word_front m (slot_start i)) ∙ z))
    ∙ ap peer (peer_from_lem m (slot_start i))

-- ---- the things in a slot's tables, from j on

pub gid_next : (m : List ℕ) (a j : ℕ) → j < length (peer_from m a).gids
    → drop j (peer_from m a).gids ≡ word_at Little m (a + first_gid + gid_width * j) ∷ drop (j + 1) (peer_from m a).gids
gid_next m a j h =
    let e : a + gids_at + (4 + gid_width * j) ≡ a + first_gid + gid_width * j = omega arith in
    table_next gid_width gid_room word_of (drop (a + gids_at) m) j h
    ∙ rw (drop-drop (4 + gid_width * j), e, word_part m (a + first_gid + gid_width * j) gid_width 0 (omega arith), add-zero)

pub pending_next : (m : List ℕ) (a j : ℕ) → j < length (peer_from m a).pending
    → drop j (peer_from m a).pending
    ≡ record {
      callee = word_at Little m (a + first_callee + call_width * j);
      serial = word_at Little m (a + first_serial + call_width * j);
      tick = long_at m (a + first_tick + call_width * j);
    }
    ∷ drop (j + 1) (peer_from m a).pending
pending_next m a j h =
    let c = a + first_callee + call_width * j in
    let e : a + pending_at + (4 + call_width * j) ≡ c = omega arith in
    let f : c + serial_offset ≡ a + first_serial + call_width * j = omega arith in
    let g : c + tick_offset ≡ a + first_tick + call_width * j = omega arith in
    table_next call_width call_room pending_of (drop (a + pending_at) m) j h
    ∙ rw (
      drop-drop (4 + call_width * j),
      e,
      word_part m c call_width 0 (omega arith),
      add-zero,
      word_part m c call_width serial_offset (omega arith),
      long_part m c call_width tick_offset (omega arith),
      f,
      g,
    )

pub name_next : (m : List ℕ) (a j : ℕ) → j < length (peer_from m a).names
    → drop j (peer_from m a).names ≡ name_of (take name_width (drop (a + first_name + name_width * j) m)) ∷ drop (j + 1) (peer_from m a).names
name_next m a j h =
    let e : a + names_at + (4 + name_width * j) ≡ a + first_name + name_width * j = omega arith in
    table_next name_width name_room name_of (drop (a + names_at) m) j h ∙ rw (drop-drop (4 + name_width * j) (a + names_at) m, e)

-- ---- how many they are

pub gids_many : (m : List ℕ) (a : ℕ) → length (peer_from m a).gids ≡ min (word_at Little m (a + gids_at)) gid_room
gids_many m a = table_many gid_width gid_room word_of (drop (a + gids_at) m) ∙ ap (λ (n : ℕ). min n gid_room) (word_front m (a + gids_at))

pub pending_many : (m : List ℕ) (a : ℕ) → length (peer_from m a).pending ≡ min (word_at Little m (a + pending_at)) call_room
pending_many m a = table_many call_width call_room pending_of (drop (a + pending_at) m) ∙ ap (λ (n : ℕ). min n call_room) (word_front m (a + pending_at))

pub names_many : (m : List ℕ) (a : ℕ) → length (peer_from m a).names ≡ min (word_at Little m (a + names_at)) name_room
names_many m a = table_many name_width name_room name_of (drop (a + names_at) m) ∙ ap (λ (n : ℕ). min n name_room) (word_front m (a + names_at))
