-- The fields of a peer in its slot's bytes: each is put at its place, and the rest stays.
use mathlib.Core.List.{List, ◌++◌, map, append_assoc}
use mathlib.Core.Path.{◌≡◌, sym, ap, ◌∙◌}
use Prim.Native.Nat.{ℕ, ◌+◌, ◌*◌, ◌≤◌, ◌<◌}
use native.Mathlib.Omega.{arith}
use lib.ListN.{length, get_or, take, drop, length-append}
use lib.Seq.{take_at, drop_at}
use Rattle.wire.specs.Words.{word_at, word_bytes}
use Rattle.wire.specs.declared.Order.TheVariants.{Little}
use Rattle.wire.proofs.Words.{word_length}
use Rattle.tables.specs.Tables.{table_bytes, table_of}
use Rattle.wire.proofs.Parts.{part_put, part_nested}
use Rattle.tables.proofs.Words.{word_part, word_front}
use Rattle.tables.proofs.Table.{table_length, table_count, table_again}
use Rattle.policy.specs.Names.{cell_of, name_width}
use Rattle.stream.specs.Tail.{Tail}
use Rattle.rules.specs.State.{Pending, Peer, free, peer, State, put_slot, with_names, with_pending, with_stream}
use Rattle.memory.specs.Layout.{slot_length, slot_start, gids_at, gid_width, gid_room, pending_at, call_width}
use Rattle.memory.specs.Layout.{call_room, names_at, name_room, taken_at, stream_length, rest_at}
use Rattle.memory.specs.Encoding.{pending_bytes, stream_bytes, rest_bytes, peer_bytes, slot_bytes, memory_of}
use Rattle.memory.specs.Places.{count_at}
use Rattle.memory.proofs.Frame.{head_length_lem, put_memory, memory_at}

-- ---- the table of xs in the bytes s, at b: `pre` before it, `post` after it

pub record Within {A : Type 0} (w k : ℕ) (enc : A → List ℕ) (xs : List A) (pre post : List ℕ) (b : ℕ) (s : List ℕ) : Type 0 where
  pub start : length pre ≡ b
  pub is : s ≡ pre ++ (table_bytes w k enc xs ++ post)

module _ {A : Type 0} {w k b : ℕ} {enc : A → List ℕ} {xs : List A} {s pre post : List ℕ} (g : Within w k enc xs pre post b s) where
  table_from : drop b s ≡ table_bytes w k enc xs ++ post
  table_from = rw g.is (drop_at pre (table_bytes w k enc xs ++ post) b g.start)

  pub table_part : take (4 + w * k) (drop b s) ≡ table_bytes w k enc xs
  table_part = ap (take (4 + w * k)) table_from ∙ take_at (table_bytes w k enc xs) post (4 + w * k) (table_length w k enc xs)

  pub table_put : {ys : List A} {t : List ℕ} → Within w k enc ys pre post b t
      → t ≡ take b s ++ (table_bytes w k enc ys ++ drop (b + (4 + w * k)) s)
  table_put {ys} f =
      f.is
      ∙ rw g.is (part_put pre (table_bytes w k enc xs) (table_bytes w k enc ys) post b (4 + w * k) g.start (table_length w k enc xs))

  pub table_counted : length xs < 4294967296 → word_at Little s b ≡ length xs
  table_counted h = sym (word_front s b) ∙ ap (λ (z : List ℕ). word_at Little z 0) table_from ∙ table_count w k enc xs post h

  pub table_back : ((x : A) → length (enc x) ≡ w) → (dec : List ℕ → A) → length xs ≤ k → k < 4294967296 → map dec (map enc xs) ≡ xs
      → table_of w k dec (drop b s) ≡ xs
  table_back sized dec h o q = ap (table_of w k dec) table_from ∙ table_again w k enc sized dec xs post h (omega arith) q

-- ---- what stands before each field

unfoldable pub before_gids : Peer Tail → List ℕ
before_gids p = word_bytes p.number ++ word_bytes p.uid

unfoldable pub before_pending : Peer Tail → List ℕ
before_pending p = before_gids p ++ table_bytes gid_width gid_room word_bytes p.gids

unfoldable pub before_names : Peer Tail → List ℕ
before_names p = before_pending p ++ table_bytes call_width call_room pending_bytes p.pending

unfoldable pub before_stream : Peer Tail → List ℕ
before_stream p = before_names p ++ table_bytes name_width name_room cell_of p.names

-- ---- and behind it

abbrev behind_names : Peer Tail → List ℕ
behind_names p = stream_bytes p.stream ++ rest_bytes

abbrev behind_pending : Peer Tail → List ℕ
behind_pending p = table_bytes name_width name_room cell_of p.names ++ behind_names p

abbrev behind_gids : Peer Tail → List ℕ
behind_gids p = table_bytes call_width call_room pending_bytes p.pending ++ behind_pending p

pub stream_length_lem : (t : Tail) → length (stream_bytes t) ≡ stream_length
stream_length_lem t = simp (length-append, word_length, head_length_lem)

-- ---- the tables of a peer in its bytes, and the stream behind them

pub gids_in : (p : Peer Tail) → Within gid_width gid_room word_bytes p.gids (before_gids p) (behind_gids p) gids_at (slot_bytes (peer p))
unfolding slot_bytes peer_bytes before_gids
gids_in p =
    record { start = simp (length-append, word_length); is = sym (append_assoc (word_bytes p.number) (word_bytes p.uid) _) }

pub pending_in_lem : (p : Peer Tail) → Within call_width call_room pending_bytes p.pending (before_pending p) (behind_pending p) pending_at (slot_bytes (peer p))
unfolding before_pending
pending_in_lem p =
    record {
      start = simp (length-append, (gids_in p).start, table_length);
      is = (gids_in p).is ∙ sym (append_assoc (before_gids p) (table_bytes gid_width gid_room word_bytes p.gids) _);
    }

pub names_in_lem : (p : Peer Tail) → Within name_width name_room cell_of p.names (before_names p) (behind_names p) names_at (slot_bytes (peer p))
unfolding before_names
names_in_lem p =
    record {
      start = simp (length-append, (pending_in_lem p).start, table_length);
      is = (pending_in_lem p).is ∙ sym (append_assoc (before_pending p) (table_bytes call_width call_room pending_bytes p.pending) _);
    }

pub before_stream_lem : (p : Peer Tail) → length (before_stream p) ≡ taken_at
unfolding before_stream
before_stream_lem p = simp (length-append, (names_in_lem p).start, table_length)

pub split_stream : (p : Peer Tail) → slot_bytes (peer p) ≡ before_stream p ++ behind_names p
unfolding before_stream
split_stream p = (names_in_lem p).is ∙ sym (append_assoc (before_names p) (table_bytes name_width name_room cell_of p.names) (behind_names p))

-- ---- a field put

pub put_pending : (p : Peer Tail) (ws : List Pending) → slot_bytes (peer (with_pending p ws))
    ≡ take pending_at (slot_bytes (peer p)) ++ (table_bytes call_width call_room pending_bytes ws ++ drop names_at (slot_bytes (peer p)))
unfolding before_pending before_gids
put_pending p ws = table_put (pending_in_lem p) (pending_in_lem (with_pending p ws))

pub put_names : (p : Peer Tail) (ns : List (List ℕ)) → slot_bytes (peer (with_names p ns))
    ≡ take names_at (slot_bytes (peer p)) ++ (table_bytes name_width name_room cell_of ns ++ drop taken_at (slot_bytes (peer p)))
unfolding before_names before_pending before_gids
put_names p ns = table_put (names_in_lem p) (names_in_lem (with_names p ns))

pub put_stream : (p : Peer Tail) (t : Tail) → slot_bytes (peer (with_stream p t))
    ≡ take taken_at (slot_bytes (peer p)) ++ (stream_bytes t ++ drop rest_at (slot_bytes (peer p)))
unfolding before_stream before_names before_pending before_gids
put_stream p t =
    split_stream (with_stream p t)
    ∙ rw (split_stream p) (part_put (before_stream p) (stream_bytes p.stream) (stream_bytes t) rest_bytes taken_at stream_length (before_stream_lem p)
    (stream_length_lem p.stream))

-- ---- a field put in memory: `new` are the c bytes at b of slot i that differ

pub put_field : (s : State Tail) (i : ℕ) (p q : Peer Tail) (new : List ℕ) (b c : ℕ) → i < length s.slots → get_or s.slots i free ≡ peer p
    → b + c ≤ slot_length → slot_bytes (peer q) ≡ take b (slot_bytes (peer p)) ++ (new ++ drop (b + c) (slot_bytes (peer p)))
    → memory_of (put_slot s i (peer q)) ≡ take (slot_start i + b) (memory_of s) ++ (new ++ drop (slot_start i + b + c) (memory_of s))
put_field s i p q new b c h e l f =
    let g : take slot_length (drop (slot_start i) (memory_of s)) ≡ slot_bytes (peer p) = memory_at s i h ∙ ap slot_bytes e in
    put_memory s i (peer q) h
    ∙ rw (f, ← g) (part_nested (memory_of s) new (slot_start i) b c slot_length l)

-- ---- the count of pending calls, as it is stored

pub count_stored : (s : State Tail) (i : ℕ) (p : Peer Tail) → i < length s.slots → get_or s.slots i free ≡ peer p → length p.pending ≤ call_room
    → count_at (memory_of s) i ≡ length p.pending
count_stored s i p h e few =
    sym (word_part (memory_of s) (slot_start i) slot_length pending_at (omega arith))
    ∙ ap (λ (y : List ℕ). word_at Little y pending_at) (memory_at s i h ∙ ap slot_bytes e)
    ∙ table_counted (pending_in_lem p) (omega arith)

-- ---- the stream read off the bytes of a peer

pub stream_from : (p : Peer Tail) → drop taken_at (slot_bytes (peer p)) ≡ behind_names p
stream_from p = rw (split_stream p) (drop_at (before_stream p) (behind_names p) taken_at (before_stream_lem p))

pub stream_bytes_lem : (p : Peer Tail) → take stream_length (drop taken_at (slot_bytes (peer p))) ≡ stream_bytes p.stream
stream_bytes_lem p = rw (stream_from p) (take_at (stream_bytes p.stream) rest_bytes stream_length (stream_length_lem p.stream))
