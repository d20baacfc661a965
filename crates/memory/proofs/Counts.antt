-- In good memory each slot's stored count of pending calls is how many records stand behind it; with any other count the memory is not good, which is 51
-- (rules 10.3, 10.5 and 10.6).
use mathlib.Core.Bool.{Bool, true, false, ◌&&◌}
use mathlib.Core.List.{List, [], ◌∷◌, ◌++◌}
use mathlib.Core.Path.{◌≡◌, refl, sym, ap, ◌∙◌}
use Prim.Native.Nat.{ℕ, zero, suc, ◌+◌, ◌-◌, ◌<◌}
use native.Mathlib.Omega.{arith}
use lib.Dec.{eqb, leb}
use lib.ListN.{length, get_or, take, drop}
use lib.Seq.{drop_at, drop-drop, length-take-le}
use borrow.Author.Tests.{eqb-true, eqb-false}
use Rattle.wire.specs.Bytes.{all_zero}
use Rattle.wire.specs.Lists.{any, every}
use Rattle.wire.specs.Words.{word_at, long_at, word_bytes}
use Rattle.wire.specs.declared.Order.TheVariants.{Little}
use Rattle.wire.proofs.Texts.{both}
use Rattle.wire.proofs.Parts.{drop_past, drop_taken}
use Rattle.wire.proofs.Words.{word_length}
use Rattle.tables.specs.Tables.{parts, table_bytes, used}
use Rattle.tables.proofs.Words.{word_part, word_front}
use Rattle.tables.proofs.Cells.{parts_take}
use Rattle.tables.proofs.Count.{zeros_word, table_used}
use Rattle.stream.specs.Tail.{Tail}
use Rattle.rules.specs.State.{Pending, Slot, free, peer, is_peer}
use Rattle.rules.specs.Pending.{same_call}
use Rattle.wire.proofs.Tests.{clash, refute, by_test}
use Rattle.memory.specs.Layout.{memory_length, slot_length, slot_start, pending_at, pending_length, first_callee, call_width, call_room, serial_offset, tick_offset}
use Rattle.memory.specs.Encoding.{pending_bytes, pending_of, slot_bytes, peer_of, slot_of, state_of}
use Rattle.memory.specs.Good.{good_pending, good_peer, good_slot, good_slots, good}
use Rattle.memory.specs.Places.{count_at, records_at, count_put}
use Rattle.memory.proofs.Octets.{distinct_every}
use Rattle.memory.proofs.Frame.{pending_length_lem}
use Rattle.memory.proofs.Fields.{pending_in_lem, table_part}
use Rattle.memory.proofs.Reading.{slot_at, part_free, part_peer}
use Rattle.memory.proofs.Slots.{word_found}
use Rattle.memory.proofs.Peers.{peer_good}
use Rattle.memory.proofs.Good.{good_sized, good_slots_lem, held_of}
use Rattle.memory.proofs.Held.{held_part}

-- ---- one slot

-- the count in the bytes of a slot is how many records stand behind it
abbrev Counts : List ℕ → Type 0
Counts b = word_at Little b pending_at ≡ used (parts call_width call_room (drop first_callee b))

module _ (all : List (Slot Tail)) (last tick : ℕ) where
  -- a pending call has a serial, so that its bytes are not all zero
  call_some : (b : List ℕ) → any (is_peer (word_at Little b 0)) all && leb 1 (word_at Little b serial_offset) && leb (long_at b tick_offset) tick ≡ true
      → all_zero b ≡ false
  call_some b e =
      refute (all_zero b) (λ z. let f : leb 1 (word_at Little b serial_offset) ≡ true = search both in clash (rw (zeros_word b serial_offset z) at f) refl)

  free_counted : (b : List ℕ) → b ≡ slot_bytes free → Counts b
  unfolding slot_bytes word_at used parts all_zero
  free_counted b q =
      ap (λ (z : List ℕ). word_at Little z pending_at) q ∙ ap (λ (z : List ℕ). used (parts call_width call_room (drop first_callee z))) (sym q)

  peer_counted : (b : List ℕ) (later : List (Slot Tail)) → b ≡ slot_bytes (peer (peer_of b)) → good_peer all last tick (peer_of b) later ≡ true → Counts b
  unfolding peer_of good_pending
  peer_counted b later q g =
      let p = peer_of b in
      let t : Pending → Bool = λ w. any (is_peer w.callee) all && leb 1 w.serial && leb w.tick tick in
      let d = drop pending_at b in
      let s : take pending_length d ≡ table_bytes call_width call_room pending_bytes p.pending
      = ap (λ (z : List ℕ). take pending_length (drop pending_at z)) q ∙ table_part (pending_in_lem p) in
      let e : every t p.pending ≡ true = distinct_every t same_call p.pending (peer_good all last tick p later g).pending in
      sym (word_front b pending_at)
      ∙ table_used call_width pending_of t call_some call_room pending_bytes pending_length_lem d (omega arith) s e
      ∙ ap (λ (z : List ℕ). used (parts call_width call_room z)) (drop-drop 4 pending_at b)

  slot_counted : (b : List ℕ) (later : List (Slot Tail)) → b ≡ slot_bytes (slot_of b) → good_slot all last tick (slot_of b) later ≡ true → Counts b
  slot_counted b later q g =
      by_test (eqb (word_at Little b 0) 0)
      (λ t. free_counted b (q ∙ ap slot_bytes (part_free b (eqb-true (word_at Little b 0) 0 t))))
      (λ f. let e = part_peer b (eqb-false (word_at Little b 0) 0 f) in peer_counted b later (q ∙ ap slot_bytes e) (rw e at g))

  pub slots_at_lem : (l : List (Slot Tail)) (i : ℕ) → good_slots all last tick l ≡ true → good_slot all last tick (get_or l i free) (drop (suc i) l) ≡ true
  unfolding good_slots
  slots_at_lem [] i e = refl
  slots_at_lem (x ∷ l) zero e = search both
  slots_at_lem (x ∷ l) (suc i) e = slots_at_lem l i (search both)

-- ---- memory

-- the stored count is how many records stand behind it
pub count_is : (m : List ℕ) → good m ≡ true → (i : ℕ) → i < 16 → count_at m i ≡ records_at m i
count_is m g i h =
    let a = slot_start i in
    let all = (state_of m).slots in
    let b = take slot_length (drop a m) in
    let s : get_or all i free ≡ slot_of b = slot_at m i h in
    let k = slots_at_lem all (state_of m).last (state_of m).tick all i (good_slots_lem m g) in
    sym (word_part m a slot_length pending_at (omega arith))
    ∙ slot_counted all (state_of m).last (state_of m).tick b (drop (suc i) all) (held_part m i (held_of m g) h ∙ ap slot_bytes s) (rw s at k)
    ∙ rw (drop_taken first_callee slot_length (drop a m), drop-drop first_callee a m)
    (ap used (parts_take call_width call_room (slot_length - first_callee) (drop (a + first_callee) m) (omega arith)))

-- memory in which they differ, in a slot that is used or free, is not good (rules 10.3 and 10.5)
pub miscounted : (m : List ℕ) (i : ℕ) → i < 16 → (count_at m i ≡ records_at m i → ⊥) → good m ≡ false
miscounted m i h other = refute (good m) (λ g. other (count_is m g i h))

-- what was put is the count, and the records stay
module _ (m : List ℕ) (i n : ℕ) (l : length m ≡ memory_length) (h : i < 16) where
  put_count : n < 4294967296 → count_at (count_put m i n) i ≡ n
  put_count f =
      let a = slot_start i + pending_at in
      let d = drop (slot_start i + first_callee) m in
      word_found (count_put m i n) d a n (drop_at (take a m) (word_bytes n ++ d) a (length-take-le a m (omega arith))) f

  put_records : records_at (count_put m i n) i ≡ records_at m i
  put_records =
      let a = slot_start i + pending_at in
      let d = drop (a + 4) m in
      let e : slot_start i + first_callee ≡ a + 4 = omega arith in
      ap (λ (z : List ℕ). used (parts call_width call_room z))
      (rw e (drop_past (take a m) (word_bytes n ++ d) a 4 (length-take-le a m (omega arith)) ∙ drop_at (word_bytes n) d 4 (word_length n)))

-- good memory with another count in any slot, used or free, is not good (rules 10.3 and 10.5)
pub count_kept : (m : List ℕ) → good m ≡ true → (i : ℕ) → i < 16 → (n : ℕ) → n < 4294967296 → (n ≡ count_at m i → ⊥) → good (count_put m i n) ≡ false
count_kept m g i h n f other =
    let l = good_sized m g in
    miscounted (count_put m i n) i h (λ e. other (sym (put_count m i n l h f) ∙ e ∙ put_records m i n l h ∙ sym (count_is m g i h)))
