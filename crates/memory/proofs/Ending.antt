-- A table of pending calls from which those that pass a test are taken out, call by call; and the bytes of a slot after that.
use mathlib.Core.Bool.{Bool, true, false}
use mathlib.Core.List.{List, [], ◌++◌, map, append-nil, ◌∷◌}
use mathlib.Core.Path.{◌≡◌, refl, sym, ap, ap₂, ◌∙◌}
use Prim.Native.Nat.{ℕ, zero, suc, ◌+◌, ◌-◌, ◌*◌, ◌≤◌, min, ◌<◌}
use native.Mathlib.Omega.{arith}
use lib.ListN.{length, get_or, take, drop}
use borrow.Author.Rules.{rules}
use Rattle.wire.proofs.Words.{Octets}
use Rattle.wire.specs.Bytes.{Below}
use Rattle.wire.specs.Words.{word_at, word_bytes}
use Rattle.wire.specs.declared.Order.TheVariants.{Little}
use Rattle.tables.specs.Tables.{parts, table_bytes, table_of}
use Rattle.tables.specs.Cut.{Cell, without}
use Rattle.wire.proofs.Longs.{long_below}
use Rattle.tables.proofs.Words.{word_fits, bytes_take, bytes_drop}
use Rattle.tables.proofs.Table.{table_length, table_many, table_count, table_again, table_at}
use Rattle.tables.proofs.Change.{without_length, map_without, removed, table_remove}
use Rattle.stream.specs.Tail.{Tail}
use Rattle.rules.specs.State.{Pending, Slot, peer}
use Rattle.rules.specs.Pending.{ended_where, count_where, remove_calls}
use Rattle.rules.proofs.Waits.{ended_where_count}
use Rattle.memory.specs.Layout.{pending_at, call_width, call_room, pending_length, names_at, serial_offset, tick_offset}
use Rattle.memory.specs.Encoding.{pending_bytes, pending_of, slot_bytes, peer_of, slot_of}
use Rattle.memory.specs.Places.{changed}
use Rattle.memory.proofs.Frame.{pending_length_lem}
use Rattle.memory.proofs.Reading.{part_free, part_peer}
use Rattle.memory.proofs.Fields.{put_pending}
use Rattle.memory.proofs.Again.{pending_back}
use Rattle.memory.proofs.Removal.{Leaving, leaving_begins, leaving_out, leaving_stays, leaving_ends}

-- what is read off bytes is given back by its own bytes
parts_back : (n : ℕ) (d : List ℕ) → Below 256 d
    → map pending_of (map pending_bytes (map pending_of (parts call_width n d))) ≡ map pending_of (parts call_width n d)
unfolding parts
parts_back zero d b = refl
parts_back (suc n) d b =
    let f : Below 256 (take call_width d) = bytes_take call_width d b in
    ap₂ ◌∷◌
    (pending_back (pending_of (take call_width d)) (word_fits (take call_width d) 0 f) (word_fits (take call_width d) serial_offset f)
    (long_below (take call_width d) tick_offset f))
    (parts_back n (drop call_width d) (bytes_drop call_width d b))

table_back : (t : List ℕ) → Below 256 t
    → map pending_of (map pending_bytes (table_of call_width call_room pending_of t)) ≡ table_of call_width call_room pending_of t
unfolding table_of
table_back t b = parts_back (min (word_at Little t 0) call_room) (drop 4 t) (bytes_drop 4 t b)

-- b is the table of `calls`, n of the k that there were; those from j on stay, and those before j are still to be looked at
pub record Ending (t : Pending → Bool) (ws₀ : List Pending) (b : List ℕ) (k n j : ℕ) : Type 0 where
  pub calls : List Pending
  pub back : map pending_of (map pending_bytes calls) ≡ calls
  pub is : b ≡ table_bytes call_width call_room pending_bytes calls
  pub sized : length b ≡ pending_length
  pub all : k ≡ length ws₀
  pub count : n ≡ length calls
  pub room : k ≤ call_room
  pub fewer : n ≤ k
  pub few : n ≤ call_room
  pub below : j ≤ n
  pub left : Leaving t ws₀ calls j

pub ending_begins : (t : Pending → Bool) (b : List ℕ) (n : ℕ) → length b ≡ pending_length → Octets b
    → b ≡ table_bytes call_width call_room pending_bytes (table_of call_width call_room pending_of b) → n ≡ word_at Little b 0
    → Ending t (table_of call_width call_room pending_of b) b n n n
ending_begins t b n l f e en =
    let ws = table_of call_width call_room pending_of b in
    let k : length ws ≡ min (word_at Little b 0) call_room = table_many call_width call_room pending_of b in
    let q : word_at Little b 0 ≡ length ws
    = ap (λ (z : List ℕ). word_at Little z 0) (e ∙ sym (append-nil (table_bytes call_width call_room pending_bytes ws)))
    ∙ table_count call_width call_room pending_bytes ws [] (omega arith) in
    record {
      calls = ws;
      back = table_back b (λ i. (f i).fits);
      is = e;
      sized = l;
      all = en ∙ q;
      count = en ∙ q;
      room = omega arith;
      fewer = omega arith;
      few = omega arith;
      below = omega arith;
      left = leaving_begins t ws n (en ∙ q);
    }

module _ {t : Pending → Bool} {ws₀ : List Pending} {b : List ℕ} {k n j : ℕ} (g : Ending t ws₀ b k n j) (h : 0 < j) where
  back : j - 1 + 1 ≡ j
  back = omega arith

  inside : j - 1 < n
  inside = omega (arith, g.below)

  pub ending_cell : Cell b (4 + call_width * (j - 1)) call_width (4 + call_width * n)
  ending_cell =
      record { inside = omega (arith, inside); room = omega (arith, g.sized, g.few) }

  read : table_of call_width call_room pending_of b ≡ g.calls
  read =
      let ws = g.calls in
      ap (table_of call_width call_room pending_of) (g.is ∙ sym (append-nil (table_bytes call_width call_room pending_bytes ws)))
      ∙ table_again call_width call_room pending_bytes pending_length_lem pending_of ws [] (omega (arith, g.count, g.few)) (omega arith) g.back

  call_at : get_or g.calls (j - 1) (pending_of []) ≡ pending_of (take call_width (drop (4 + call_width * (j - 1)) b))
  call_at =
      let l : j - 1 < length (table_of call_width call_room pending_of b) = rw read (omega (arith, g.count, inside)) in
      rw read at (table_at call_width call_room pending_of b (j - 1) l)

  before : Leaving t ws₀ g.calls (j - 1 + 1)
  before = rw back g.left

  module _ (r : Bool) (e : r ≡ t (pending_of (take call_width (drop (4 + call_width * (j - 1)) b)))) where
    pub ending_out : r ≡ true → (b₁ : List ℕ) → b₁ ≡ word_bytes (n - 1) ++ removed call_width n (j - 1) (drop 4 b) → Ending t ws₀ b₁ k (n - 1) (j - 1)
    ending_out q b₁ e₁ =
        let ws = g.calls in
        let m : n ≡ length ws = g.count in
        let f : n ≤ call_room = g.few in
        let i : j - 1 < n = inside in
        let l : length (without (j - 1) ws) + 1 ≡ length ws = without_length (j - 1) ws (omega arith) in
        let is : b₁ ≡ table_bytes call_width call_room pending_bytes (without (j - 1) ws) =
        e₁ ∙ sym (table_remove call_width call_room pending_bytes pending_length_lem ws (j - 1) b n g.is m f i) in
        record {
          calls = without (j - 1) ws;
          back = ap (map pending_of) (map_without pending_bytes (j - 1) ws) ∙ map_without pending_of (j - 1) (map pending_bytes ws) ∙ ap (without (j - 1)) g.back;
          is = is;
          sized = ap length is ∙ table_length call_width call_room pending_bytes (without (j - 1) ws);
          all = g.all;
          count = omega arith;
          room = g.room;
          fewer = omega (arith, g.fewer);
          few = omega arith;
          below = omega (arith, g.below);
          left = leaving_out t ws₀ ws (j - 1) before (pending_of []) (ap t call_at ∙ sym e ∙ q);
        }

    pub ending_stays : r ≡ false → Ending t ws₀ b k n (j - 1)
    ending_stays q =
        record {
          calls = g.calls;
          back = g.back;
          is = g.is;
          sized = g.sized;
          all = g.all;
          count = g.count;
          room = g.room;
          fewer = g.fewer;
          few = g.few;
          below = omega (arith, g.below);
          left = leaving_stays t ws₀ g.calls (j - 1) before (pending_of []) (ap t call_at ∙ sym e ∙ q);
        }

-- what is left, and how many ended
module _ {t : Pending → Bool} {ws₀ : List Pending} {b : List ℕ} {k n j : ℕ} (g : Ending t ws₀ b k n j) (h : j ≤ 0) where
  calls_left : g.calls ≡ ended_where t ws₀
  calls_left = let e : j ≡ 0 = omega arith in leaving_ends t ws₀ g.calls (rw e at g.left)

  pub ending_ends : b ≡ table_bytes call_width call_room pending_bytes (ended_where t ws₀)
  ending_ends = g.is ∙ ap (table_bytes call_width call_room pending_bytes) calls_left

  pub ending_counts : k - n ≡ count_where t ws₀
  ending_counts =
      let l : n ≡ length (ended_where t ws₀) = g.count ∙ ap length calls_left in
      omega (arith, ended_where_count t ws₀, g.all)

pub ruleset ending = (ending_begins, ending_cell, ending_out, ending_stays, ending_ends, ending_counts, rules)

-- ---- the bytes of a slot whose calls that pass the test have ended

-- b is a slot's bytes, and is plain
pub calls_removed_free : (t : Pending → Bool) (b : List ℕ) → slot_bytes (slot_of b) ≡ b → word_at Little b 0 ≡ 0 → b ≡ changed (remove_calls t) b
calls_removed_free t b p e =
    let q = part_free b e in
    sym p ∙ ap slot_bytes q ∙ sym (ap (λ (x : Slot Tail). slot_bytes (remove_calls t x)) q)

pub calls_removed_peer : (t : Pending → Bool) (b : List ℕ) → slot_bytes (slot_of b) ≡ b → (word_at Little b 0 ≡ 0 → ⊥)
    → take pending_at b ++ (table_bytes call_width call_room pending_bytes (ended_where t (peer_of b).pending) ++ drop names_at b) ≡ changed (remove_calls t) b
calls_removed_peer t b p e =
    let x = peer_of b in
    let q = part_peer b e in
    let s : slot_bytes (peer x) ≡ b = ap slot_bytes (sym q) ∙ p in
    sym
    (ap (λ (y : Slot Tail). slot_bytes (remove_calls t y)) q
    ∙ put_pending x (ended_where t x.pending)
    ∙ ap (λ (z : List ℕ). take pending_at z ++ (table_bytes call_width call_room pending_bytes (ended_where t x.pending) ++ drop names_at z)) s)
