-- A slot is the bytes of the peer that is read off it exactly where its tables have their shape.
use mathlib.Core.Path.{◌≡◌, sym, ap, ap₂, ◌∙◌}
use mathlib.Core.Bool.{Bool, true, ◌&&◌, and_assoc}
use mathlib.Core.List.{List, ◌++◌, append_assoc}
use Prim.Native.Nat.{ℕ, ◌+◌, ◌-◌, ◌*◌, ◌≤◌, min, ◌<◌}
use native.Mathlib.Omega.{arith}
use native.Mathlib.Decide.{dec_le}
use native.Mathlib.Nat.{add-zero, mul-le-mul_left}
use lib.Dec.{leb}
use lib.ListN.{length, take, drop, replicate, length-drop, take-append-drop}
use lib.Seq.{drop-drop, length-take-le, take-take, take_all}
use borrow.Author.Tests.{lt-leb, ne_eqb}
use Rattle.wire.specs.Bytes.{Below, all_zero, same, front}
use Rattle.wire.specs.Words.{word_at, long_at, word_bytes, long_bytes}
use Rattle.wire.specs.declared.Order.TheVariants.{Little}
use Rattle.wire.proofs.Texts.{same_refl}
use Rattle.wire.proofs.Parts.{drop_take, drop_taken}
use Rattle.wire.proofs.Blocks.{zeroes, zeroes_divides}
use Rattle.wire.proofs.Words.{word_length, bytes_again, word_bytes_lem}
use Rattle.wire.proofs.Longs.{long_bytes_lem}
use Rattle.tables.specs.Tables.{table_bytes, table_of, plain_cells}
use Rattle.tables.proofs.Words.{word_part, word_front, bytes_take, bytes_drop}
use Rattle.tables.proofs.Table.{table_length, table_take}
use Rattle.tables.proofs.Same.{same_zeros, same_split, table_same, plain_always}
use Rattle.policy.specs.Names.{cell_of, name_of, name_width}
use Rattle.stream.specs.Tail.{Tail}
use Rattle.rules.specs.State.{Slot, free, peer}
use Rattle.memory.specs.Layout.{gid_width, gid_room, serial_offset, tick_offset, call_width, call_room, name_room, head_room, gids_length}
use Rattle.memory.specs.Layout.{pending_length, names_length, kept_length, rest_length, uid_at, gids_at, pending_at, names_at, first_name}
use Rattle.memory.specs.Layout.{taken_at, head_at, first_byte, rest_at, slot_length, slot_start, memory_length}
use Rattle.memory.specs.Encoding.{pending_bytes, head_bytes, rest_bytes, peer_bytes, slot_bytes, word_of, pending_of, slot_of}
use Rattle.memory.specs.Places.{peer_from}
use Rattle.memory.proofs.Reading.{slot_take, peer_from_lem}
use Rattle.memory.proofs.Heads.{single, single_length, head_table_lem, head_of, single_plain}
use Rattle.memory.proofs.Frame.{pending_length_lem, cell_length, head_length_lem}
use Rattle.audit.specs.Tests.{table_test, cells_test, head_from, head_test, shape_test}

-- a part that starts a part of memory
same_part : (x q m : List ℕ) (c n k : ℕ) → length x ≡ n → n ≤ k
    → same (x ++ q) (take k (drop c m)) ≡ same x (take n (drop c m)) && same q (take (k - n) (drop (c + n) m))
same_part x q m c n k l h =
    same_split x q (take k (drop c m)) n l
    ∙ rw (take-take n k (drop c m) h, drop_taken n k (drop c m), drop-drop n c m)

-- tests that agree where n is at most k
within : (n k : ℕ) (a b : Bool) → (n ≤ k → a ≡ b) → leb n k && a ≡ leb n k && b
within n k a b e = elim (dec_le n k) [
  | yes h ↦ rw (e h)
  | no h ↦ rw (lt-leb n k (omega arith))
]

module _ (m : List ℕ) (f : Below 256 m) where
  -- any word is plain
  word_plain : (c : ℕ) → c + 4 ≤ length m → same (word_bytes (word_at Little m c)) (take 4 (drop c m)) ≡ true
  word_plain c h = rw (word_bytes_lem m c f h) (same_refl (take 4 (drop c m)))

  word_same : (q : List ℕ) (c k : ℕ) → 4 ≤ k → c + 4 ≤ length m
      → same (word_bytes (word_at Little m c) ++ q) (take k (drop c m)) ≡ same q (take (k - 4) (drop (c + 4) m))
  word_same q c k h l =
      same_part (word_bytes (word_at Little m c)) q m c 4 k (word_length (word_at Little m c)) h ∙ rw (word_plain c l)

  module _ {A : Type 0} (w k : ℕ) (enc : A → List ℕ) (sized : (x : A) → length (enc x) ≡ w) (dec : List ℕ → A) where
    -- a table is plain where its cells are
    table_cells : (c : ℕ) → k < 4294967296 → c + (4 + w * k) ≤ length m
        → same (table_bytes w k enc (table_of w k dec (drop c m))) (take (4 + w * k) (drop c m))
        ≡ leb (word_at Little m c) k && plain_cells enc dec w (word_at Little m c) (take (w * k) (drop (c + 4) m))
    table_cells c s h =
        let l : length (take (4 + w * k) (drop c m)) ≡ 4 + w * k = length-take-le (4 + w * k) (drop c m) (omega (arith, length-drop c m)) in
        let e : word_at Little m c ≡ word_at Little (take (4 + w * k) (drop c m)) 0 = sym (word_part m c (4 + w * k) 0 (omega arith) ∙ rw add-zero) in
        let d : drop 4 (take (4 + w * k) (drop c m)) ≡ take (w * k) (drop (c + 4) m)
        = drop_take 4 (w * k) (drop c m) ∙ rw (drop-drop 4 c m) in
        ap (λ (xs : List A). same (table_bytes w k enc xs) (take (4 + w * k) (drop c m))) (sym (table_take w k dec (drop c m) (4 + w * k) (omega arith)))
        ∙ table_same w enc sized dec k (take (4 + w * k) (drop c m)) (word_at Little m c) s l (bytes_take (4 + w * k) (drop c m) (bytes_drop c m f)) e
        ∙ rw d

    -- where any cell is plain, the zeros alone are left to test
    table_plain : ((b : List ℕ) → length b ≡ w → Below 256 b → enc (dec b) ≡ b) → (c : ℕ) → k < 4294967296 → c + (4 + w * k) ≤ length m
        → same (table_bytes w k enc (table_of w k dec (drop c m))) (take (4 + w * k) (drop c m)) ≡ table_test m c w k
    unfolding table_test
    table_plain always c s h =
        let n = word_at Little m c in
        let d = drop (c + 4) m in
        let l : length (take (w * k) d) ≡ w * k = length-take-le (w * k) d (omega (arith, length-drop (c + 4) m)) in
        let plain : n ≤ k → plain_cells enc dec w n (take (w * k) d) ≡ all_zero (take (w * k - w * n) (drop (c + 4 + w * n) m))
        = λ b. plain_always w enc sized dec always n (take (w * k) d) (rw l (mul-le-mul_left w b)) (bytes_take (w * k) d (bytes_drop (c + 4) m f))
        ∙ rw (drop_taken (w * n) (w * k) d, drop-drop (w * n) (c + 4) m) in
        table_cells c s h ∙ within n k _ _ plain

pending_again : (b : List ℕ) → length b ≡ call_width → Below 256 b → pending_bytes (pending_of b) ≡ b
pending_again b l f =
    let x : word_bytes (word_at Little b 0) ≡ take 4 b = word_bytes_lem b 0 f (omega arith) in
    let y : word_bytes (word_at Little b serial_offset) ≡ take 4 (drop serial_offset b) = word_bytes_lem b serial_offset f (omega arith) in
    let z : long_bytes (long_at b tick_offset) ≡ drop 4 (drop serial_offset b)
    = long_bytes_lem b tick_offset f (omega arith)
    ∙ take_all 8 (drop tick_offset b) (omega (arith, length-drop tick_offset b))
    ∙ sym (drop-drop 4 serial_offset b) in
    ap₂ ◌++◌ x (ap₂ ◌++◌ y z ∙ take-append-drop 4 (drop serial_offset b)) ∙ take-append-drop 4 b

zeros_same : (n : ℕ) (d : List ℕ) → n ≤ length d → same (replicate n 0) (take n d) ≡ all_zero (take n d)
zeros_same n d h = rw (length-take-le n d h) at (same_zeros (take n d))

-- ---- a whole slot

-- the names of the slot that begins at a are few, and plain
abbrev cells_from : List ℕ → ℕ → Bool
cells_from m a =
    leb (word_at Little m (a + names_at)) name_room
    && plain_cells cell_of name_of name_width (word_at Little m (a + names_at)) (take (name_width * name_room) (drop (a + first_name) m))

module _ (m : List ℕ) (f : Below 256 m) (a : ℕ) (h : a + slot_length ≤ length m) where
  head_is : table_of 1 head_room front (drop (a + head_at) m) ≡ take (min (word_at Little m (a + head_at)) head_room) (drop (a + first_byte) m)
  head_is =
      let e : a + head_at + 4 ≡ a + first_byte = omega arith in
      sym (head_of (drop (a + head_at) m) (omega (arith, length-drop (a + head_at) m))) ∙ rw (word_front m (a + head_at), drop-drop 4 (a + head_at) m, e)

  head_plain : same (head_bytes (take (min (word_at Little m (a + head_at)) head_room) (drop (a + first_byte) m))) (take kept_length (drop (a + head_at) m))
      ≡ table_test m (a + head_at) 1 head_room
  head_plain =
      ap (λ (z : List ℕ). same z (take kept_length (drop (a + head_at) m)))
      (ap head_bytes (sym head_is) ∙ head_table_lem (table_of 1 head_room front (drop (a + head_at) m)))
      ∙ table_plain m f 1 head_room single single_length front single_plain (a + head_at) (omega arith) (omega arith)

  rest_plain : same rest_bytes (take rest_length (drop (a + rest_at) m)) ≡ all_zero (take (a + slot_length - (a + rest_at)) (drop (a + rest_at) m))
  unfolding rest_bytes
  rest_plain =
      let e : a + slot_length - (a + rest_at) ≡ rest_length = omega arith in
      rw e (zeros_same rest_length (drop (a + rest_at) m) (omega (arith, length-drop (a + rest_at) m)))

  -- the head and what stands behind it
  end_plain : same (head_bytes (take (min (word_at Little m (a + head_at)) head_room) (drop (a + first_byte) m)) ++ rest_bytes)
      (take (slot_length - head_at) (drop (a + head_at) m))
      ≡ head_from m a
  unfolding table_test
  end_plain =
      let t = head_bytes (take (min (word_at Little m (a + head_at)) head_room) (drop (a + first_byte) m)) in
      let n = word_at Little m (a + head_at) in
      let e : a + head_at + kept_length ≡ a + rest_at = omega arith in
      let q : a + head_at + 4 + 1 * n ≡ a + first_byte + n = omega arith in
      let zeros : n ≤ head_room → all_zero (take (1 * head_room - 1 * n) (drop (a + head_at + 4 + 1 * n) m)) && zeroes m (a + rest_at) (a + slot_length)
      ≡ zeroes m (a + first_byte + n) (a + slot_length)
      = λ b. let p : 1 * head_room - 1 * n ≡ a + rest_at - (a + first_byte + n) = omega arith in
      rw (p, q) (sym (zeroes_divides m (a + first_byte + n) (a + rest_at) (a + slot_length) (omega arith) (omega arith))) in
      same_part t rest_bytes m (a + head_at) kept_length (slot_length - head_at) (head_length_lem _) (omega arith)
      ∙ ap₂ ◌&&◌ head_plain (ap (λ (b : ℕ). same rest_bytes (take rest_length (drop b m))) e ∙ rest_plain)
      ∙ and_assoc (leb n head_room) _ _
      ∙ within n head_room _ _ zeros

  pub peer_plain : same (peer_bytes (peer_from m a)) (take slot_length (drop a m))
      ≡ table_test m (a + gids_at) gid_width gid_room
      && (table_test m (a + pending_at) call_width call_room
      && (cells_from m a
      && head_from m a))
  unfolding peer_bytes
  peer_plain =
      let g = table_bytes gid_width gid_room word_bytes (table_of gid_width gid_room word_of (drop (a + gids_at) m)) in
      let p = table_bytes call_width call_room pending_bytes (table_of call_width call_room pending_of (drop (a + pending_at) m)) in
      let n = table_bytes name_width name_room cell_of (table_of name_width name_room name_of (drop (a + names_at) m)) in
      let k = word_bytes (word_at Little m (a + taken_at)) in
      let t = head_bytes (take (min (word_at Little m (a + head_at)) head_room) (drop (a + first_byte) m)) in
      let s = (k ++ t) ++ rest_bytes in
      let u : a + uid_at + 4 ≡ a + gids_at = omega arith in
      let v : a + gids_at + gids_length ≡ a + pending_at = omega arith in
      let w : a + pending_at + pending_length ≡ a + names_at = omega arith in
      let x : a + names_at + names_length ≡ a + taken_at = omega arith in
      let y : a + taken_at + 4 ≡ a + head_at = omega arith in
      let z : a + names_at + 4 ≡ a + first_name = omega arith in
      word_same m f (word_bytes (word_at Little m (a + uid_at)) ++ (g ++ (p ++ (n ++ s)))) a slot_length (omega arith) (omega arith)
      ∙ word_same m f (g ++ (p ++ (n ++ s))) (a + uid_at) (slot_length - uid_at) (omega arith) (omega arith)
      ∙ rw u
      (same_part g (p ++ (n ++ s)) m (a + gids_at) gids_length (slot_length - gids_at)
      (table_length gid_width gid_room word_bytes (table_of gid_width gid_room word_of (drop (a + gids_at) m))) (omega arith)
      ∙ rw (v, table_plain m f gid_width gid_room word_bytes word_length word_of bytes_again (a + gids_at) (omega arith) (omega arith))
      (ap (λ (b : Bool). table_test m (a + gids_at) gid_width gid_room && b)
      (same_part p (n ++ s) m (a + pending_at) pending_length (slot_length - pending_at)
      (table_length call_width call_room pending_bytes (table_of call_width call_room pending_of (drop (a + pending_at) m))) (omega arith)
      ∙ rw (w, table_plain m f call_width call_room pending_bytes pending_length_lem pending_of pending_again (a + pending_at) (omega arith) (omega arith))
      (ap (λ (b : Bool). table_test m (a + pending_at) call_width call_room && b)
      (same_part n s m (a + names_at) names_length (slot_length - names_at)
      (table_length name_width name_room cell_of (table_of name_width name_room name_of (drop (a + names_at) m))) (omega arith)
      ∙ rw (x, table_cells m f name_width name_room cell_of cell_length name_of (a + names_at) (omega arith) (omega arith), z)
      (ap (λ (b : Bool). cells_from m a && b)
      (ap (λ (l : List ℕ). same l (take (slot_length - taken_at) (drop (a + taken_at) m))) (append_assoc k t rest_bytes)
      ∙ word_same m f (t ++ rest_bytes) (a + taken_at) (slot_length - taken_at) (omega arith) (omega arith)
      ∙ rw y end_plain)))))))

-- slot i has a peer, and is the bytes of what is read off it where it has its shape
pub slot_plain : (m : List ℕ) → Below 256 m → length m ≡ memory_length → (i : ℕ) → i < 16 → (word_at Little m (slot_start i) ≡ 0 → ⊥)
    → same (slot_bytes (slot_of (take slot_length (drop (slot_start i) m)))) (take slot_length (drop (slot_start i) m)) ≡ shape_test m i
unfolding slot_of slot_bytes shape_test cells_test head_test
slot_plain m f l i h e =
    let a = slot_start i in
    let q : slot_of (take slot_length (drop a m)) ≡ peer (peer_from m a)
    = slot_take (drop a m) ∙ rw (word_front m a, ne_eqb (word_at Little m a) 0 e) (ap peer (peer_from_lem m a)) in
    ap (λ (x : Slot Tail). same (slot_bytes x) (take slot_length (drop a m))) q
    ∙ peer_plain m f a (omega arith)
    ∙ simp and_assoc

-- a free slot is all zero
pub free_plain : (m : List ℕ) → length m ≡ memory_length → (i : ℕ) → i < 16 → word_at Little m (slot_start i) ≡ 0
    → same (slot_bytes (slot_of (take slot_length (drop (slot_start i) m)))) (take slot_length (drop (slot_start i) m))
    ≡ all_zero (take slot_length (drop (slot_start i) m))
unfolding slot_of slot_bytes
free_plain m l i h e =
    let a = slot_start i in
    let q : slot_of (take slot_length (drop a m)) ≡ free = slot_take (drop a m) ∙ rw (word_front m a, e) in
    ap (λ (x : Slot Tail). same (slot_bytes x) (take slot_length (drop a m))) q ∙ zeros_same slot_length (drop a m) (omega (arith, length-drop a m))
