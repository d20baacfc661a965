-- A slot, and the slots one after the other.
use mathlib.Core.Path.{◌≡◌, refl, sym, ◌∙◌}
use mathlib.Core.Bool.{Bool, true, false, not, ◌&&◌, and-true, and-false}
use mathlib.Core.List.{List, [], ◌∷◌}
use Prim.Native.Nat.{ℕ, ◌+◌, ◌-◌, ◌≤◌, min, ◌<◌}
use native.Mathlib.Omega.{arith}
use Rattle.std.proofs.Common.{Option, is_some}
use native.Mathlib.Numerals.{add-one}
use lib.ListN.{length, take, drop, get_or, drop_of_length-le, length-drop}
use lib.Seq.{drop-cons, take-take, length-take-le}
use borrow.Author.Rules.{rules}
use borrow.Author.Tests.{le-leb, lt-leb, lt-ltb, le-ltb, eq-eqb, ne_eqb, not-true, not-false}
use Rattle.wire.specs.Bytes.{all_zero, same}
use Rattle.wire.specs.Words.{word_at}
use Rattle.wire.specs.declared.Order.TheVariants.{Little}
use Rattle.wire.proofs.Words.{Octets, cut_at}
use Rattle.tables.specs.Tables.{parts}
use Rattle.tables.proofs.Cells.{parts_length}
use Rattle.stream.specs.Tail.{good_tail}
use Rattle.rules.specs.State.{free, peer, is_peer}
use Rattle.memory.specs.Layout.{memory_length, slot_length, slot_start, gids_at, gid_width, gid_room, pending_at, call_width}
use Rattle.memory.specs.Layout.{call_room, taken_at, head_at, first_byte, head_room, name_room, slots_at}
use Rattle.memory.specs.Encoding.{slot_of, slot_bytes, state_of}
use Rattle.memory.specs.Good.{good_names, good_pending, good_peer, good_slot, good_slots, plain_slots, good}
use Rattle.memory.specs.Places.{number_at, FoundSlot}
use Rattle.memory.proofs.Reading.{sixteen, slot_at, slot_part, slot_free, slot_peer, gids_many, pending_many, names_many}
use Rattle.slots.specs.Slots.{peer_at}
use Rattle.audit.specs.Tests.{table_test, cells_test, head_test, shape_test, slot_test}
use Rattle.audit.proofs.Found.{found_any}
use Rattle.audit.proofs.Plain.{slot_plain, free_plain}

-- ---- its shape

pub shape_is : (m : List ℕ) (i : ℕ) (a b c d : Bool) → a ≡ table_test m (slot_start i + gids_at) gid_width gid_room
    → b ≡ table_test m (slot_start i + pending_at) call_width call_room
    → c ≡ cells_test m i
    → d ≡ head_test m i
    → a && b && c && d ≡ shape_test m i
unfolding shape_test
shape_is m i a b c d p q r s = rw (p, q, r, s)

pub ruleset shapes = (shape_is, rules)

-- ---- its stream

pub stream_is : (m : List ℕ) (i t n s : ℕ) (r : Bool) → t ≡ word_at Little m (slot_start i + taken_at) → n ≡ word_at Little m (slot_start i + head_at)
    → s ≡ min n head_room
    → r ≡ good_tail
    (record { taken = t; head = take s (take (slot_start i + first_byte + head_room - (slot_start i + first_byte)) (drop (slot_start i + first_byte) m)) })
    → r ≡ good_tail (peer_at m i).stream
stream_is m i t n s r p q e z =
    let k : s ≤ head_room = omega arith in
    z ∙ rw (cut_at (slot_start i + first_byte) head_room m, take-take s head_room (drop (slot_start i + first_byte) m) k, p, e, q)

pub stream_small : (m : List ℕ) (i n s : ℕ) → length m ≡ memory_length → i < 16 → s ≡ min n head_room
    → s ≤ length (take (slot_start i + first_byte + head_room - (slot_start i + first_byte)) (drop (slot_start i + first_byte) m))
stream_small m i n s l h e =
    rw (
      cut_at (slot_start i + first_byte) head_room m,
      length-take-le head_room (drop (slot_start i + first_byte) m) (omega (arith, length-drop (slot_start i + first_byte) m)),
    )
    (omega arith)

pub ruleset streams = (stream_is, stream_small, rules)

-- ---- its peer

module _ (m : List ℕ) (i n last tick : ℕ) (e : n ≡ number_at m i) where
  pub peer_high : last < n → false ≡ good_peer (state_of m).slots last tick (peer_at m i) (drop (i + 1) (state_of m).slots)
  unfolding good_peer
  peer_high h = rw (← e, lt-leb n last h, and-false)

  module _ (h : i < 16) (f : Option ℕ) (g : FoundSlot (is_peer n) m (i + 1) f) where
    pub peer_twice : {y : Bool} → y ≡ is_some f → y ≡ true → false ≡ good_peer (state_of m).slots last tick (peer_at m i) (drop (i + 1) (state_of m).slots)
    unfolding good_peer
    peer_twice d k = rw (← e, found_any (is_peer n) m (i + 1) f g, ← d, k, and-false)

    pub peer_good : 1 ≤ n → n ≤ last → {y : Bool} → y ≡ is_some f → y ≡ false → (p q r : Bool) → p ≡ good_pending (state_of m).slots tick (peer_at m i).pending
        → q ≡ good_names (peer_at m i).names (drop (i + 1) (state_of m).slots)
        → r ≡ good_tail (peer_at m i).stream
        → p && q && r ≡ good_peer (state_of m).slots last tick (peer_at m i) (drop (i + 1) (state_of m).slots)
    unfolding good_peer
    peer_good a b d c p q r x y z =
        rw (
          ← e,
          le-leb 1 n a,
          le-leb n last b,
          found_any (is_peer n) m (i + 1) f g,
          ← d,
          c,
          le-leb (length (peer_at m i).gids) gid_room (omega (arith, gids_many m (slot_start i))),
          le-leb (length (peer_at m i).pending) call_room (omega (arith, pending_many m (slot_start i))),
          le-leb (length (peer_at m i).names) name_room (omega (arith, names_many m (slot_start i))),
          x,
          y,
          z,
        )

pub ruleset peers = (peer_high, peer_twice, peer_good, rules)

-- ---- the slot

module _ (m : List ℕ) (f : Octets m) (l : length m ≡ memory_length) (i : ℕ) (h : i < 16) (n last tick : ℕ) (e : n ≡ number_at m i) where
  slot_is : slot_of (take slot_length (drop (slot_start i) m)) ≡ get_or (state_of m).slots i free
  slot_is = sym (slot_at m i h)

  pub slot_unused : n ≡ 0 → (r : Bool) → r ≡ all_zero (take (slot_start i + slot_length - (slot_start i)) (drop (slot_start i) m)) → r ≡ slot_test m i last tick
  unfolding slot_test
  slot_unused z r q =
      let s : slot_of (take slot_length (drop (slot_start i) m)) ≡ free = slot_is ∙ slot_free m i h (sym e ∙ z) in
      q ∙ rw (cut_at (slot_start i) slot_length m, ← free_plain m l i h (sym e ∙ z), s)

  module _ (z : n ≡ 0 → ⊥) where
    slot_used : slot_of (take slot_length (drop (slot_start i) m)) ≡ peer (peer_at m i)
    slot_used = slot_is ∙ slot_peer m i h (λ y. z (e ∙ y))

    shaped : same (slot_bytes (slot_of (take slot_length (drop (slot_start i) m)))) (take slot_length (drop (slot_start i) m)) ≡ shape_test m i
    shaped = slot_plain m (λ j. (f j).fits) l i h (λ y. z (e ∙ y))

    pub slot_shapeless : (s : Bool) → s ≡ shape_test m i → not s ≡ true → false ≡ slot_test m i last tick
    unfolding slot_test
    slot_shapeless s q t = rw (shaped, ← q, not-true s t, and-false)

    pub slot_good : (s : Bool) → s ≡ shape_test m i → not s ≡ false → (r : Bool)
        → r ≡ good_peer (state_of m).slots last tick (peer_at m i) (drop (i + 1) (state_of m).slots)
        → r ≡ slot_test m i last tick
    unfolding slot_test
    slot_good s q t r p = p ∙ sym (rw (shaped, ← q, not-false s t, and-true, slot_used))

pub one_or_more : (n : ℕ) → (n ≡ 0 → ⊥) → 1 ≤ n
one_or_more n h = omega arith

pub ruleset slot_tests = (slot_unused, slot_shapeless, slot_good, one_or_more, rules)

-- ---- the slots, of which i are tested

-- what the slots from i on come to
unfoldable pub left_good : List ℕ → ℕ → ℕ → ℕ → Bool
left_good m last tick i = good_slots (state_of m).slots last tick (drop i (state_of m).slots) && plain_slots (drop i (parts slot_length 16 (drop slots_at m)))

mix : (a b c d : Bool) → (a && b) && (c && d) ≡ (a && c) && (b && d)
mix true true c d = refl
mix true false true d = refl
mix true false false d = refl
mix false b c d = refl

left_step : (m : List ℕ) (last tick i : ℕ) → i < 16 → left_good m last tick i ≡ slot_test m i last tick && left_good m last tick (i + 1)
unfolding left_good good_slots plain_slots slot_test
left_step m last tick i h =
    let p = parts slot_length 16 (drop slots_at m) in
    let b = take slot_length (drop (slot_start i) m) in
    let s : drop i (state_of m).slots ≡ slot_of b ∷ drop (i + 1) (state_of m).slots
    = drop-cons (state_of m).slots i free (rw (sixteen m) h) ∙ rw (slot_at m i h, add-one) in
    let q : drop i p ≡ b ∷ drop (i + 1) p = drop-cons p i [] (rw (parts_length slot_length 16 (drop slots_at m)) h) ∙ rw (slot_part m i h, add-one) in
    rw (s, q)
    (mix (good_slot (state_of m).slots last tick (slot_of b) (drop (i + 1) (state_of m).slots)) (good_slots (state_of m).slots last tick (drop (i + 1) (state_of m).slots))
    (same (slot_bytes (slot_of b)) b) (plain_slots (drop (i + 1) p)))

pub record Auditing (m : List ℕ) (last tick i : ℕ) : Type 0 where
  pub sized : length m ≡ memory_length
  pub inside : i ≤ 16
  pub left : good m ≡ left_good m last tick i

pub wrong_length : (m : List ℕ) → (length m ≡ memory_length → ⊥) → false ≡ good m
unfolding good
wrong_length m h = rw (ne_eqb (length m) memory_length h)

pub auditing_begins : {m : List ℕ} {last tick : ℕ} → length m ≡ memory_length → last ≡ (state_of m).last → tick ≡ (state_of m).tick → Auditing m last tick 0
unfolding good left_good
auditing_begins {m} {last} {tick} l e f = record { sized = l; inside = omega arith; left = rw (eq-eqb (length m) memory_length l, e, f) }

module _ {m : List ℕ} {last tick i : ℕ} (a : Auditing m last tick i) where
  module _ (h : i < 16) {r : Bool} (e : r ≡ slot_test m i last tick) where
    pub auditing_more : not r ≡ false → Auditing m last tick (i + 1)
    auditing_more t = record { sized = a.sized; inside = omega arith; left = a.left ∙ left_step m last tick i h ∙ rw (← e, not-false r t) }

    pub auditing_stops : not r ≡ true → false ≡ good m
    auditing_stops t = sym (a.left ∙ left_step m last tick i h ∙ rw (← e, not-true r t))

  pub auditing_ends : 16 ≤ i → true ≡ good m
  unfolding left_good good_slots plain_slots
  auditing_ends h =
      sym (a.left
      ∙ rw (
        drop_of_length-le (state_of m).slots {i = i} (rw (sixteen m) h),
        drop_of_length-le (parts slot_length 16 (drop slots_at m)) {i = i} (rw (parts_length slot_length 16 (drop slots_at m)) h),
      ))

pub ruleset auditing = (wrong_length, auditing_begins, auditing_more, auditing_stops, auditing_ends, rules)
