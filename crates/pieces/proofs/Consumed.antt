-- A whole message: its head stands in its slot, and memory is good once its stream is cleared.
use Rattle.std.proofs.Common.{◌≡◌, refl, sym, ap, ◌∙◌, false, List, ◌++◌, append_assoc, ℕ, ◌+◌, ◌-◌, ◌≤◌, ◌<◌, arith, length, take, drop, get_or, replicate, length-append, length-take, length-drop, take_at, drop_at, drop-drop, length-take-le}
use lib.ListN.{length-replicate}
use lib.Seq.{take-append-le}
use Rattle.wire.specs.Bytes.{pad}
use Rattle.wire.specs.Words.{word_bytes}
use Rattle.wire.proofs.Texts.{impossible, pad_length}
use Rattle.wire.proofs.Words.{Octets, word_length}
use Rattle.header.specs.Header.{read_header}
use Rattle.header.specs.declared.Header.{Header}
use Rattle.std.specs.Prelude.{Ok}
use Rattle.header.proofs.Readings.{whole_fits}
use Rattle.image.specs.Promises.{GoodImage}
use Rattle.wire.proofs.Parts.{drop_past, part_put, pad_fits}
use Rattle.stream.specs.Stream.{offer, whole}
use Rattle.stream.specs.Tail.{Tail, tails, closed, fresh}
use Rattle.stream.proofs.Good.{fresh_good, open_more}
use Rattle.stream.proofs.Pushes.{offer_whole}
use Rattle.rules.specs.State.{free, peer, State, put_slot, with_stream}
use Rattle.memory.specs.Layout.{memory_length, slot_start, taken_at, first_byte, head_room, stream_length, head_offset, byte_offset}
use Rattle.memory.specs.Encoding.{head_bytes, stream_bytes, memory_of, state_of}
use Rattle.memory.specs.Sound.{Sound}
use Rattle.memory.proofs.Fields.{stream_length_lem}
use Rattle.memory.specs.Places.{number_at}
use Rattle.memory.proofs.Reading.{slot_free, slot_peer}
use Rattle.memory.proofs.Sound.{state_again, good_memory}
use Rattle.memory.proofs.Good.{held_of}
use Rattle.sound.proofs.Put.{put_there}
use Rattle.sound.proofs.Renew.{stream_sound}
use Rattle.slots.specs.Slots.{peer_at, Seated}
use Rattle.pieces.specs.Fed.{cleared, head_in, behind_in, Completed}
use Rattle.pieces.proofs.Seats.{sound, peer_is, fine, cleared_is}

-- ---- the bytes of a stream put into memory

module _ (m : List ℕ) (i : ℕ) (l : length m ≡ memory_length) (h : i < 16) (t : Tail) where
  before : length (take (slot_start i + taken_at) m) ≡ slot_start i + taken_at
  before = length-take-le (slot_start i + taken_at) m (omega arith)

  -- clearing what was put is clearing what was there
  pub cleared_put : cleared (take (slot_start i + taken_at) m ++ (stream_bytes t ++ drop (slot_start i + taken_at + stream_length) m)) i ≡ cleared m i
  cleared_put =
      let b = slot_start i + taken_at in
      sym (part_put (take b m) (stream_bytes t) (replicate stream_length 0) (drop (b + stream_length) m) b stream_length before (stream_length_lem t))

  -- the room of the head, from its first byte on
  room_put : drop (slot_start i + first_byte) (take (slot_start i + taken_at) m ++ (stream_bytes t ++ drop (slot_start i + taken_at + stream_length) m))
      ≡ pad head_room t.head ++ drop (slot_start i + taken_at + stream_length) m
  unfolding head_bytes
  room_put =
      let b = slot_start i + taken_at in
      let w = word_bytes t.taken in
      let v = word_bytes (length t.head) in
      let d = pad head_room t.head in
      let r = drop (b + stream_length) m in
      let e : slot_start i + first_byte ≡ b + byte_offset = omega arith in
      rw (e, drop_past (take b m) (stream_bytes t ++ r) b byte_offset before, append_assoc w (v ++ d) r, append_assoc v d r)
      (drop_past w (v ++ (d ++ r)) head_offset 4 (word_length t.taken) ∙ drop_at v (d ++ r) 4 (word_length (length t.head)))

  module _ (n : ℕ) (k : n ≤ head_room) where
    pub head_put : head_in (take (slot_start i + taken_at) m ++ (stream_bytes t ++ drop (slot_start i + taken_at + stream_length) m)) i n
        ≡ take n (pad head_room t.head)
    head_put =
        ap (take n) room_put
        ∙ take-append-le n (pad head_room t.head) (drop (slot_start i + taken_at + stream_length) m) (omega (arith, pad_length head_room t.head))

    pub behind_put : length t.head ≡ n
        → behind_in (take (slot_start i + taken_at) m ++ (stream_bytes t ++ drop (slot_start i + taken_at + stream_length) m)) i n ≡ replicate (head_room - n) 0
    behind_put l =
        let r = drop (slot_start i + taken_at + stream_length) m in
        let z = replicate {A = ℕ} (head_room - n) 0 in
        let p : pad head_room t.head ≡ t.head ++ z = pad_fits head_room t.head (omega arith) ∙ rw l in
        ap (take (head_room - n))
        (sym (drop-drop n (slot_start i + first_byte) (take (slot_start i + taken_at) m ++ (stream_bytes t ++ r)))
        ∙ ap (drop n) (room_put ∙ ap (λ (y : List ℕ). y ++ r) p ∙ append_assoc t.head z r)
        ∙ drop_at t.head (z ++ r) n l)
        ∙ take_at z r (head_room - n) (length-replicate (head_room - n) 0)

-- ---- good memory after a whole message

module _ (m : List ℕ) (f : Octets m) (i : ℕ) (s : Seated m i) where
  -- the state in which the message is consumed
  abbrev pub consumed : State Tail
  consumed = put_slot (state_of m) i (peer (with_stream (peer_at m i) fresh))

  pub consumed_sound : Sound consumed
  consumed_sound = stream_sound (state_of m) i (peer_at m i) (sound m f i s) (peer_is m f i s) fresh fresh_good refl

  pub consumed_at : get_or consumed.slots i free ≡ peer (with_stream (peer_at m i) fresh)
  consumed_at = put_there (state_of m) i (peer_at m i) (with_stream (peer_at m i) fresh) (peer_is m f i s)

  pub consumed_again : state_of (memory_of consumed) ≡ consumed
  consumed_again = state_again consumed consumed_sound

  consumed_slot : get_or (state_of (memory_of consumed)).slots i free ≡ peer (with_stream (peer_at m i) fresh)
  consumed_slot = rw consumed_again consumed_at

  consumed_some : number_at (memory_of consumed) i ≡ 0 → ⊥
  consumed_some z = impossible (cc (consumed_slot, slot_free (memory_of consumed) i s.below z))

  pub consumed_peer : peer_at (memory_of consumed) i ≡ with_stream (peer_at m i) fresh
  consumed_peer = cc (consumed_slot, slot_peer (memory_of consumed) i s.below consumed_some)

  consumed_seat : Seated (memory_of consumed) i
  consumed_seat =
      let h = held_of (memory_of consumed) (good_memory consumed consumed_sound) in
      record { held = h; sized = h.sized; below = s.below; some = consumed_some }

  -- what the bytes of a whole message leave, where `after` is memory with them
  module _ (image piece : List ℕ) where
    -- the stream with them
    abbrev t : Tail
    t = (offer tails (peer_at m i).stream piece).stream

    module _ (after : List ℕ) (x : Header) (g : GoodImage image) (o : closed (peer_at m i).stream ≡ false)
        (e : after ≡ take (slot_start i + taken_at) m ++ (stream_bytes t ++ drop (slot_start i + taken_at + stream_length) m))
        (v : whole (take x.head (pad head_room t.head)) x ≡ (offer tails (peer_at m i).stream piece).verdict) where
      pub consumed_clear : cleared after i ≡ memory_of consumed
      consumed_clear = rw e (cleared_put m i s.sized s.below t ∙ cleared_is m f i s)

      head_read : (read_header (take x.head (pad head_room t.head)) ≡ Ok x) × (length t.head ≡ x.head)
      head_read =
          let k = (fine m f i s).tail in
          offer_whole (peer_at m i).stream piece k (open_more (peer_at m i).stream k o) _ x (sym v)

      head_small : x.head ≤ head_room
      head_small = (whole_fits _ x head_read.0).head_small

      pub consumed_head : head_in after i x.head ≡ take x.head (pad head_room t.head)
      consumed_head = rw e (head_put m i s.sized s.below t x.head head_small)

      after_length : length after ≡ memory_length
      after_length =
          rw e (simp (length-append, length-take, length-drop) (omega (arith, simp length-append at (stream_length_lem t), s.sized, s.below)))

      pub completed : Completed image after i x
      completed =
          record {
            good = g;
            sized = after_length;
            below = s.below;
            seat = rw consumed_clear consumed_seat;
            read = ap read_header consumed_head ∙ head_read.0;
            small = head_small;
            behind = rw e (behind_put m i s.sized s.below t x.head head_small head_read.1);
          }
