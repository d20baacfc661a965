-- A slot that fits its bytes is read back from them.
use mathlib.Core.List.{List, ◌++◌, map, append_assoc}
use mathlib.Core.Path.{◌≡◌, refl, sym, ap, ◌∙◌}
use Prim.Native.Nat.{ℕ, ◌≤◌, ◌<◌, min}
use native.Mathlib.Omega.{arith}
use native.Mathlib.Nat.{min-eq_left}
use lib.ListN.{length, take, drop}
use lib.Seq.{take_at, drop_at, drop-drop}
use borrow.Author.Tests.{ne_eqb}
use Rattle.wire.specs.Bytes.{pad}
use Rattle.wire.specs.Words.{word_at, word_bytes}
use Rattle.wire.specs.declared.Order.TheVariants.{Little}
use Rattle.wire.proofs.Words.{word_length, word_again}
use Rattle.wire.proofs.Parts.{pad_fits}
use Rattle.tables.proofs.Words.{word_front}
use Rattle.policy.specs.Names.{cell_of, name_of}
use Rattle.stream.specs.Tail.{Tail}
use Rattle.rules.specs.State.{Peer, free, peer}
use Rattle.memory.specs.Layout.{uid_at, gid_room, call_room, name_room, taken_at, head_at, first_byte, head_room, head_offset}
use Rattle.memory.specs.Encoding.{pending_bytes, head_bytes, rest_bytes, peer_bytes, slot_bytes, word_of, pending_of, slot_tail, peer_of, slot_of}
use Rattle.memory.proofs.Frame.{pending_length_lem, cell_length}
use Rattle.memory.proofs.Fields.{gids_in, pending_in_lem, names_in_lem, table_back, stream_from}

-- what the bytes of a slot can hold
pub record Fits (p : Peer Tail) : Type 0 where
  pub number : p.number < 4294967296
  pub uid : p.uid < 4294967296
  pub gids : length p.gids ≤ gid_room
  pub gids_back : map word_of (map word_bytes p.gids) ≡ p.gids
  pub calls : length p.pending ≤ call_room
  pub calls_back : map pending_of (map pending_bytes p.pending) ≡ p.pending
  pub names : length p.names ≤ name_room
  pub names_back : map name_of (map cell_of p.names) ≡ p.names
  pub taken : p.stream.taken < 4294967296
  pub head : length p.stream.head ≤ head_room

-- ---- each field

-- a number is read where its bytes stand
pub word_found : (s t : List ℕ) (b n : ℕ) → drop b s ≡ word_bytes n ++ t → n < 4294967296 → word_at Little s b ≡ n
word_found s t b n e h = sym (word_front s b) ∙ ap (λ (z : List ℕ). word_at Little z 0) e ∙ word_again n t h

pub number_back : (p : Peer Tail) → p.number < 4294967296 → word_at Little (slot_bytes (peer p)) 0 ≡ p.number
unfolding slot_bytes peer_bytes
number_back p h = word_again p.number _ h

pub uid_back : (p : Peer Tail) → p.uid < 4294967296 → word_at Little (slot_bytes (peer p)) uid_at ≡ p.uid
unfolding slot_bytes peer_bytes
uid_back p h = word_found (peer_bytes p) _ uid_at p.uid (drop_at (word_bytes p.number) _ uid_at (word_length p.number)) h

-- the stream in its words
stream_words : (p : Peer Tail) → drop taken_at (slot_bytes (peer p)) ≡ word_bytes p.stream.taken ++ (head_bytes p.stream.head ++ rest_bytes)
stream_words p = stream_from p ∙ append_assoc (word_bytes p.stream.taken) (head_bytes p.stream.head) rest_bytes

pub taken_back : (p : Peer Tail) → p.stream.taken < 4294967296 → word_at Little (slot_bytes (peer p)) taken_at ≡ p.stream.taken
taken_back p h = word_found (slot_bytes (peer p)) _ taken_at p.stream.taken (stream_words p) h

head_bytes_lem : (p : Peer Tail) → drop head_at (slot_bytes (peer p)) ≡ word_bytes (length p.stream.head) ++ (pad head_room p.stream.head ++ rest_bytes)
unfolding head_bytes
head_bytes_lem p =
    let h = p.stream.head in
    sym (drop-drop head_offset taken_at (slot_bytes (peer p)))
    ∙ ap (drop head_offset) (stream_words p)
    ∙ drop_at (word_bytes p.stream.taken) (head_bytes h ++ rest_bytes) head_offset (word_length p.stream.taken)
    ∙ append_assoc (word_bytes (length h)) (pad head_room h) rest_bytes

pub head_count : (p : Peer Tail) → length p.stream.head ≤ head_room → word_at Little (slot_bytes (peer p)) head_at ≡ length p.stream.head
head_count p h = word_found (slot_bytes (peer p)) _ head_at (length p.stream.head) (head_bytes_lem p) (omega arith)

pub head_padded : (p : Peer Tail) → drop first_byte (slot_bytes (peer p)) ≡ pad head_room p.stream.head ++ rest_bytes
head_padded p =
    let h = p.stream.head in
    sym (drop-drop 4 head_at (slot_bytes (peer p)))
    ∙ ap (drop 4) (head_bytes_lem p)
    ∙ drop_at (word_bytes (length h)) (pad head_room h ++ rest_bytes) 4 (word_length (length h))

pub tail_back : (p : Peer Tail) → p.stream.taken < 4294967296 → length p.stream.head ≤ head_room → slot_tail (slot_bytes (peer p)) ≡ p.stream
unfolding slot_tail
tail_back p l h =
    let a = taken_back p l in
    let m : min (length p.stream.head) head_room ≡ length p.stream.head = min-eq_left h in
    let b : take (min (word_at Little (slot_bytes (peer p)) head_at) head_room) (drop first_byte (slot_bytes (peer p))) ≡ p.stream.head
    = rw (head_count p h, m, head_padded p, pad_fits head_room p.stream.head h, append_assoc p.stream.head)
    (take_at p.stream.head _ (length p.stream.head) refl) in
    λ j. record { taken = a j; head = b j }

-- ---- the whole

pub peer_back : (p : Peer Tail) → Fits p → peer_of (slot_bytes (peer p)) ≡ p
unfolding peer_of
peer_back p f =
    let a = number_back p f.number in
    let b = uid_back p f.uid in
    let c = table_back (gids_in p) word_length word_of f.gids (omega arith) f.gids_back in
    let d = table_back (pending_in_lem p) pending_length_lem pending_of f.calls (omega arith) f.calls_back in
    let e = table_back (names_in_lem p) cell_length name_of f.names (omega arith) f.names_back in
    let g = tail_back p f.taken f.head in
    λ j. record { number = a j; uid = b j; gids = c j; pending = d j; names = e j; stream = g j }

pub slot_back : (p : Peer Tail) → 1 ≤ p.number → Fits p → slot_of (slot_bytes (peer p)) ≡ peer p
unfolding slot_of
slot_back p h f = rw (number_back p f.number, ne_eqb p.number 0 (omega arith), peer_back p f)

pub free_back : slot_of (slot_bytes free) ≡ free
unfolding slot_of slot_bytes word_at
free_back = refl
