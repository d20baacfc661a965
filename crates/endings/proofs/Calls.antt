-- Ending the calls that pass a test: in a slot, in every slot.
use mathlib.Core.Path.{◌≡◌, refl, sym, ap, ◌∙◌}
use mathlib.Core.Bool.{Bool}
use mathlib.Core.List.{List, [], ◌∷◌, ◌++◌}
use Prim.Native.Nat.{ℕ, ◌+◌, ◌-◌, ◌*◌, ◌≤◌, ◌<◌}
use native.Mathlib.Omega.{arith}
use native.Mathlib.Numerals.{add-one}
use lib.ListN.{length, take, drop, length-drop, drop_of_length-le}
use lib.Seq.{drop_at, drop-cons, drop-drop, length-take-le}
use borrow.Author.Rules.{rules}
use Rattle.wire.specs.Words.{word_at, long_at}
use Rattle.wire.specs.declared.Order.TheVariants.{Little}
use Rattle.wire.proofs.Words.{Octets, octets_below, cut_at, put_at_lem}
use Rattle.wire.proofs.Longs.{long_part}
use Rattle.tables.specs.Tables.{table_bytes, table_of}
use Rattle.tables.proofs.Words.{word_part}
use native.Mathlib.Nat.{add-zero}
use Rattle.wire.proofs.Parts.{drop_past, part_nested, cut_two}
use Rattle.tables.proofs.Table.{table_take}
use Rattle.stream.specs.Tail.{Tail}
use Rattle.rules.specs.State.{Pending, Slot, free, peer}
use Rattle.rules.specs.Pending.{ended_where, count_where, remove_calls, count_slot, count_in}
use Rattle.memory.specs.Layout.{tick_offset, serial_offset, slot_length, slot_start, pending_at, call_width, call_room, pending_length, names_at, slots_at}
use Rattle.memory.specs.Encoding.{pending_bytes, pending_of, slot_bytes, peer_of, slot_of, memory_of, state_of}
use Rattle.memory.specs.Places.{number_at, changed}
use Rattle.memory.proofs.Reading.{sixteen, slot_at, part_free, part_peer, part_number}
use Rattle.memory.proofs.Fields.{table_part, pending_in_lem}
use Rattle.memory.proofs.Puts.{part_of}
use Rattle.memory.proofs.Frame.{slot_length_lem, memory_at}
use Rattle.memory.proofs.Ending.{Ending, ending_ends, ending_counts, calls_removed_free, calls_removed_peer}
use Rattle.memory.proofs.Sweep.{Sweeping, sweeping_begins, sweeping_again, sweeping_ends}
use Rattle.endings.specs.Endings.{EndsBy, part_at, PlainSlot, Encoded, ended_at, ended_for, EndedCalls, EndedSlot, EndedAll}

-- ---- a call

-- the closure answers of the call at a place of a table
pub call_tells : (b : List ℕ) (at : ℕ) (tells : ℕ → ℕ → Bool → Type 0) {t : Pending → Bool} → EndsBy tells t
    → {c k : ℕ} → (c ≡ word_at Little b at) × (c < 4294967296) → (k ≡ long_at b (at + tick_offset)) × (k < 18446744073709551616)
    → {r : Bool} → tells c k r → r ≡ t (pending_of (take call_width (drop at b)))
call_tells b at tells {t = t} h {c} {k} ec ek {r} p =
    let part = take call_width (drop at b) in
    let w : Pending = record { callee = c; serial = word_at Little part serial_offset; tick = k } in
    let qc : word_at Little part 0 ≡ c = word_part b at call_width 0 (omega arith) ∙ ap (word_at Little b) (add-zero at) ∙ sym ec.0 in
    let qk : long_at part tick_offset ≡ k = long_part b at call_width tick_offset (omega arith) ∙ sym ek.0 in
    rw (qc, qk) (h w ec.1 ek.1 r p)

-- ---- in a table

pub calls_ended_lem : {t : Pending → Bool} {ws : List Pending} {b : List ℕ} {k n j : ℕ} → Ending t ws b k n j → j ≤ 0 → EndedCalls t ws (k - n) b
calls_ended_lem {k = k} {n = n} g h = record { left = ending_ends g h; count = ending_counts g h; few = omega (arith, g.room) }

-- ---- in slot i

module _ (m : List ℕ) (i : ℕ) (p : PlainSlot m i) (n : ℕ) (e : n ≡ number_at m i) where
  part : List ℕ
  part = part_at m i

  number : word_at Little part 0 ≡ n
  unfolding part
  number = part_number m i ∙ sym e

  pub slot_none : n ≡ 0 → (t : Pending → Bool) → EndedSlot t m i 0 m
  unfolding ended_at part
  slot_none z t =
      let q : part ≡ changed (remove_calls t) part = calls_removed_free t part p.plain (number ∙ z) in
      record {
        left = cut_two m (slot_start i) slot_length ∙ ap (λ (y : List ℕ). take (slot_start i) m ++ (y ++ drop (slot_start i + slot_length) m)) q;
        count = ap (count_slot t) (sym (part_free part (number ∙ z)));
        few = omega arith;
      }

  -- the table of pending calls, as the code cuts it
  abbrev cut : List ℕ
  cut = take (slot_start i + pending_at + pending_length - (slot_start i + pending_at)) (drop (slot_start i + pending_at) m)

  cut_table : cut ≡ take pending_length (drop pending_at part)
  unfolding part
  cut_table =
      cut_at (slot_start i + pending_at) pending_length m ∙ sym (part_of m (slot_start i) pending_at pending_length (omega arith))

  pub slot_length_is : length cut ≡ pending_length
  slot_length_is =
      ap length (cut_at (slot_start i + pending_at) pending_length m)
      ∙ length-take-le pending_length (drop (slot_start i + pending_at) m) (omega (arith, length-drop (slot_start i + pending_at) m))

  -- what it says is what the slot says
  pending_is : table_of call_width call_room pending_of cut ≡ (peer_of part).pending
  unfolding peer_of
  pending_is =
      ap (table_of call_width call_room pending_of) cut_table ∙ table_take call_width call_room pending_of (drop pending_at part) pending_length (omega arith)

  module _ (z : n ≡ 0 → ⊥) where
    taken : word_at Little part 0 ≡ 0 → ⊥
    taken y = z (sym number ∙ y)

    pub slot_table : cut ≡ table_bytes call_width call_room pending_bytes (table_of call_width call_room pending_of cut)
    unfolding part
    slot_table =
        let s : slot_bytes (peer (peer_of part)) ≡ part = ap slot_bytes (sym (part_peer part taken)) ∙ p.plain in
        cut_table
        ∙ ap (λ (y : List ℕ). take pending_length (drop pending_at y)) (sym s)
        ∙ table_part (pending_in_lem (peer_of part))
        ∙ ap (table_bytes call_width call_room pending_bytes) (sym pending_is)

    pub slot_ended : (t : Pending → Bool) (r : ℕ) (b : List ℕ) → EndedCalls t (table_of call_width call_room pending_of cut) r b
        → EndedSlot t m i r
        (take (slot_start i + pending_at) m ++ (b ++ drop (slot_start i + pending_at + pending_length - (slot_start i + pending_at)) (drop (slot_start i + pending_at) m)))
    unfolding ended_at part
    slot_ended t r b g =
        let f : b ≡ table_bytes call_width call_room pending_bytes (ended_where t (peer_of part).pending)
        = g.left ∙ ap (λ (ws : List Pending). table_bytes call_width call_room pending_bytes (ended_where t ws)) pending_is in
        record {
          left =
              put_at_lem (slot_start i + pending_at) pending_length m b
              ∙ sym (part_nested m b (slot_start i) pending_at pending_length slot_length (omega arith))
              ∙ ap (λ (y : List ℕ). take (slot_start i) m ++ ((take pending_at part ++ (y ++ drop names_at part)) ++ drop (slot_start i + slot_length) m)) f
              ∙ ap (λ (y : List ℕ). take (slot_start i) m ++ (y ++ drop (slot_start i + slot_length) m)) (calls_removed_peer t part p.plain taken);
          count = g.count ∙ ap (count_where t) pending_is ∙ ap (count_slot t) (sym (part_peer part taken));
          few = g.few;
        }

pub ruleset slot_calls = (slot_none, slot_length_is, slot_table, slot_ended, rules)

-- ---- in every slot: those before slot i are done, and the others are as they were; r calls have ended

pub record RemovalInvariant (t : Pending → Bool) (m₀ m : List ℕ) (r i : ℕ) : Type 0 where
  pub sweeping : Sweeping (remove_calls t) m₀ m i
  pub whole : memory_of (state_of m₀) ≡ m₀
  pub rest : drop (slot_start i) m ≡ drop (slot_start i) m₀
  pub below : i ≤ 16
  pub few : r ≤ call_room * i
  pub count : r + count_in t (drop i (state_of m₀).slots) ≡ count_in t (state_of m₀).slots

pub removal_begins : (t : Pending → Bool) (m : List ℕ) → Octets m → Encoded m → RemovalInvariant t m m 0 0
removal_begins t m f g =
    record {
      sweeping = sweeping_begins (remove_calls t) m (octets_below m f) g.sized;
      whole = g.is;
      rest = refl;
      below = omega arith;
      few = omega arith;
      count = omega arith;
    }

module _ {t : Pending → Bool} {m₀ m : List ℕ} {r i : ℕ} (b : RemovalInvariant t m₀ m r i) where
  module _ (h : i < 16) where
    pub removal_slot : PlainSlot m i
    removal_slot =
        let a = slot_start i in
        let q : part_at m₀ i ≡ slot_bytes (slot_of (part_at m₀ i))
        = ap (λ (y : List ℕ). take slot_length (drop a y)) (sym b.whole)
        ∙ memory_at (state_of m₀) i (rw (sixteen m₀) h)
        ∙ ap slot_bytes (slot_at m₀ i h) in
        record { sized = b.sweeping.sized; below = h; plain = rw b.rest (sym q) }

    -- slot i, and those after it
    slots_next : drop i (state_of m₀).slots ≡ slot_of (part_at m i) ∷ drop (i + 1) (state_of m₀).slots
    slots_next =
        drop-cons (state_of m₀).slots i free (rw (sixteen m₀) h) ∙ rw (slot_at m₀ i h, ← b.rest, add-one i)

    pub removal_more : (k : ℕ) (u : List ℕ) → EndedSlot t m i k u → RemovalInvariant t m₀ u (r + k) (i + 1)
    unfolding ended_at count_in
    removal_more k u g =
        let a = slot_start i in
        let y = changed (remove_calls t) (part_at m i) in
        let e : u ≡ take a m ++ (y ++ drop (a + slot_length) m) = g.left in
        let ly : length y ≡ slot_length = slot_length_lem (remove_calls t (slot_of (part_at m i))) in
        let s = sweeping_again (remove_calls t) m₀ m u y i b.sweeping h e refl in
        let n : slots_at + slot_length * (i + 1) ≡ a + slot_length = omega arith in
        let z : drop (a + slot_length) u ≡ drop (a + slot_length) m₀
        = rw (
          e,
          drop_past (take a m) (y ++ drop (a + slot_length) m) a slot_length (length-take-le a m (omega arith)),
          drop_at y (drop (a + slot_length) m) slot_length ly,
          ← drop-drop slot_length a m,
          ← drop-drop slot_length a m₀,
          b.rest,
        ) in
        let c : r + (count_slot t (slot_of (part_at m i)) + count_in t (drop (i + 1) (state_of m₀).slots)) ≡ count_in t (state_of m₀).slots
        = ap (λ (l : List (Slot Tail)). r + count_in t l) (sym slots_next) ∙ b.count in
        record {
          sweeping = s;
          whole = b.whole;
          rest = rw n z;
          below = omega arith;
          few = omega (arith, g.few, b.few);
          count = omega (arith, c, g.count);
        }

  pub removal_ends : 16 ≤ i → EndedAll t m₀ r m
  unfolding ended_for count_in
  removal_ends h =
      let c : r + count_in {S = Tail} t [] ≡ count_in t (state_of m₀).slots
      = ap (λ (l : List (Slot Tail)). r + count_in t l) (sym (drop_of_length-le (state_of m₀).slots {i = i} (rw (sixteen m₀) h))) ∙ b.count in
      record {
        left = sweeping_ends (remove_calls t) m₀ m i b.sweeping h;
        count = omega (arith, c);
        sized = b.sweeping.sized;
      }

  pub removal_small : (k : ℕ) → k ≤ call_room → i < 16 → r + k < 4294967296
  removal_small k l h = omega (arith, b.few)

pub ruleset removal = (removal_begins, removal_slot, removal_more, removal_ends, removal_small, rules)
