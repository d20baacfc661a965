-- The stream of a slot, in good memory.
use Rattle.std.proofs.Common.{◌≡◌, refl, sym, ap, subst, ◌∙◌, Bool, false, List, ◌++◌, append_assoc, ℕ, ◌+◌, ◌-◌, ◌≤◌, min, ◌<◌, arith, length, take, drop, get_or, replicate, length-drop, drop-drop, take-take, length-take-le, rules}
use lib.ListN.{replicate-append-replicate}
use Rattle.wire.specs.Bytes.{pad}
use Rattle.wire.specs.Words.{word_at, word_bytes}
use Rattle.wire.specs.declared.Order.TheVariants.{Little}
use Rattle.wire.proofs.Words.{Octets, cut_at, put_at_lem}
use Rattle.wire.proofs.Parts.{drop_take, zeros_front}
use Rattle.tables.proofs.Words.{word_part}
use Rattle.stream.specs.Stream.{offer}
use Rattle.stream.specs.Tail.{Tail, tails, closed, fresh, good_tail}
use Rattle.stream.specs.Promises.{tail_of, GoodTail}
use Rattle.stream.specs.declared.Advance.{Advance}
use Rattle.rules.specs.State.{free, peer, put_slot, with_stream}
use Rattle.memory.specs.Layout.{memory_length, slot_start, taken_at, head_at, first_byte, head_room, stream_length, head_offset, byte_offset}
use Rattle.memory.specs.Encoding.{head_bytes, stream_bytes, memory_of, state_of}
use Rattle.memory.specs.Sound.{Sound}
use Rattle.memory.proofs.Reading.{slot_peer}
use Rattle.memory.proofs.Held.{held_peer}
use Rattle.memory.proofs.Fields.{stream_bytes_lem}
use Rattle.memory.proofs.Good.{good_sound}
use Rattle.memory.proofs.Puts.{part_of, stream_put}
use Rattle.sound.proofs.Kept.{Fine}
use Rattle.sound.proofs.Put.{peer_fine}
use Rattle.slots.specs.Slots.{peer_at, Seated}
use Rattle.slots.proofs.Found.{counted}
use Rattle.pieces.specs.Fed.{stream_in, Opens, Fed, FedAt, cleared, behind_in}

fresh_bytes : stream_bytes fresh ≡ replicate stream_length 0
unfolding word_bytes head_bytes pad
fresh_bytes = refl

module _ (m : List ℕ) (f : Octets m) (i : ℕ) (s : Seated m i) where
  pub sound : Sound (state_of m)
  sound = good_sound m (λ j. (f j).fits) s.held.held

  pub peer_is : get_or (state_of m).slots i free ≡ peer (peer_at m i)
  peer_is = slot_peer m i s.below s.some

  pub fine : Fine (state_of m).last (state_of m).tick (peer_at m i)
  fine = peer_fine (state_of m) i (peer_at m i) sound peer_is

  -- the bytes of its stream
  part_is : take stream_length (drop (slot_start i + taken_at) m) ≡ stream_bytes (peer_at m i).stream
  part_is =
      sym (part_of m (slot_start i) taken_at stream_length (omega arith))
      ∙ ap (λ (z : List ℕ). take stream_length (drop taken_at z)) (held_peer m i s.held s.below s.some)
      ∙ stream_bytes_lem (peer_at m i)

  stream_in_lem : stream_in (take stream_length (drop (slot_start i + taken_at) m)) ≡ (peer_at m i).stream
  stream_in_lem =
      let b = slot_start i + taken_at in
      let p : b + 0 ≡ slot_start i + taken_at = omega arith in
      let q : b + head_offset ≡ slot_start i + head_at = omega arith in
      let r : b + byte_offset ≡ slot_start i + first_byte = omega arith in
      let n = min (word_at Little m (slot_start i + head_at)) head_room in
      rw (
        word_part m b stream_length 0 (omega arith),
        p,
        word_part m b stream_length head_offset (omega arith),
        q,
        drop_take byte_offset head_room (drop b m),
        drop-drop byte_offset b m,
        r,
      )
      (ap (λ (h : List ℕ). record { taken = word_at Little m (slot_start i + taken_at); head = h })
      (take-take n head_room (drop (slot_start i + first_byte) m) (omega arith)))

  pub opens_at : closed (peer_at m i).stream ≡ false
      → Opens (take (slot_start i + taken_at + stream_length - (slot_start i + taken_at)) (drop (slot_start i + taken_at) m))
  opens_at c =
      rw (cut_at (slot_start i + taken_at) stream_length m)
      (record {
        sized = length-take-le stream_length (drop (slot_start i + taken_at) m) (omega (arith, length-drop (slot_start i + taken_at) m, s.sized, s.below));
        bytes = part_is ∙ ap stream_bytes (sym stream_in_lem);
        good = ap good_tail stream_in_lem ∙ fine.tail;
        runs = ap closed stream_in_lem ∙ c;
      })

  pub fed_at : (piece x after : List ℕ) (r : Advance)
      → Fed (offer tails (stream_in (take (slot_start i + taken_at + stream_length - (slot_start i + taken_at)) (drop (slot_start i + taken_at) m))) piece) r x
      → after ≡ take (slot_start i + taken_at) m ++ (x ++ drop (slot_start i + taken_at + stream_length - (slot_start i + taken_at)) (drop (slot_start i + taken_at) m))
      → FedAt m i (offer tails (peer_at m i).stream piece) r after
  fed_at piece x after r d e =
      let q = ap stream_in (cut_at (slot_start i + taken_at) stream_length m) ∙ stream_in_lem in
      let g = subst (λ (t : Tail). Fed (offer tails t piece) r x) q d in
      let t = (offer tails (peer_at m i).stream piece).stream in
      let b : after ≡ take (slot_start i + taken_at) m ++ (stream_bytes t ++ drop (slot_start i + taken_at + stream_length) m)
      = e ∙ put_at_lem (slot_start i + taken_at) stream_length m x ∙ rw g.bytes in
      record {
        taken = g.taken;
        verdict = g.verdict;
        bytes = b;
        memory = b ∙ sym (stream_put m (λ j. (f j).fits) s.held i s.below s.some t);
      }

  -- the region of its head, as the code lends it
  tail_at : (t n : ℕ) → t ≡ word_at Little m (slot_start i + taken_at) → n ≡ word_at Little m (slot_start i + head_at)
      → tail_of (take (slot_start i + first_byte + head_room - (slot_start i + first_byte)) (drop (slot_start i + first_byte) m)) t n ≡ (peer_at m i).stream
  tail_at t n p q =
      let k : n ≤ head_room = rw (← q) at (counted m i s).small in
      let e : min (word_at Little m (slot_start i + head_at)) head_room ≡ n = omega arith in
      rw (cut_at (slot_start i + first_byte) head_room m, e, ← p)
      (ap (λ (h : List ℕ). record { taken = t; head = h }) (take-take n head_room (drop (slot_start i + first_byte) m) k))

  pub closed_at : (t n : ℕ) → t ≡ word_at Little m (slot_start i + taken_at) → n ≡ word_at Little m (slot_start i + head_at)
      → GoodTail (take (slot_start i + first_byte + head_room - (slot_start i + first_byte)) (drop (slot_start i + first_byte) m)) (record { taken = t; stored = n })
  closed_at t n p q =
      record {
        inside =
            rw (
              cut_at (slot_start i + first_byte) head_room m,
              length-take-le head_room (drop (slot_start i + first_byte) m) (omega (arith, length-drop (slot_start i + first_byte) m, s.sized, s.below)),
            )
            (rw (← q) at (counted m i s).small);
        good = ap good_tail (tail_at t n p q) ∙ fine.tail;
      }

  pub closed_is : (t n : ℕ) (r : Bool) → t ≡ word_at Little m (slot_start i + taken_at) → n ≡ word_at Little m (slot_start i + head_at)
      → r ≡ closed (tail_of (take (slot_start i + first_byte + head_room - (slot_start i + first_byte)) (drop (slot_start i + first_byte) m)) t n)
      → r ≡ closed (peer_at m i).stream
  closed_is t n r p q z = z ∙ ap closed (tail_at t n p q)

  -- zeros over its stream
  pub cleared_is : cleared m i ≡ memory_of (put_slot (state_of m) i (peer (with_stream (peer_at m i) fresh)))
  cleared_is =
      ap (λ (z : List ℕ). take (slot_start i + taken_at) m ++ (z ++ drop (slot_start i + taken_at + stream_length) m)) (sym fresh_bytes)
      ∙ sym (stream_put m (λ j. (f j).fits) s.held i s.below s.some fresh)

-- k zeros at b, and w more behind them
zeros_more : (m : List ℕ) (b k w : ℕ) → take w (drop (b + k) m) ≡ replicate w 0 → replicate k 0 ++ drop (b + k) m ≡ replicate (k + w) 0 ++ drop (b + k + w) m
zeros_more m b k w e =
    rw (zeros_front m (b + k) w e, ← append_assoc (replicate k 0) (replicate w 0) (drop (b + k + w) m), replicate-append-replicate {A = ℕ} k w 0)

-- zeros written over the counts of a stream and its head, where zeros stand behind it
pub settled_at : (m z : List ℕ) (i n : ℕ) → length m ≡ memory_length → i < 16 → n ≤ head_room → behind_in m i n ≡ replicate (head_room - n) 0
    → z ≡ replicate (length (take (slot_start i + taken_at + (byte_offset + n) - (slot_start i + taken_at)) (drop (slot_start i + taken_at) m))) 0
    → take (slot_start i + taken_at) m ++ (z ++ drop (slot_start i + taken_at + (byte_offset + n) - (slot_start i + taken_at)) (drop (slot_start i + taken_at) m))
    ≡ cleared m i
settled_at m z i n h k s o q =
    let b = slot_start i + taken_at in
    let l : length (take (b + (byte_offset + n) - b) (drop b m)) ≡ byte_offset + n
    = ap length (cut_at b (byte_offset + n) m) ∙ length-take-le (byte_offset + n) (drop b m) (omega (arith, length-drop b m)) in
    let d : slot_start i + first_byte + n ≡ b + (byte_offset + n) = omega arith in
    let u : byte_offset + n + (head_room - n) ≡ stream_length = omega arith in
    let v : b + (byte_offset + n) + (head_room - n) ≡ b + stream_length = omega arith in
    let x : replicate (byte_offset + n) 0 ++ drop (b + (byte_offset + n)) m ≡ replicate stream_length 0 ++ drop (b + stream_length) m
    = rw (u, v) at (zeros_more m b (byte_offset + n) (head_room - n) (rw d at o)) in
    put_at_lem b (byte_offset + n) m z ∙ rw (q, l, x)

pub ruleset seats = (opens_at, fed_at, closed_at, closed_is, settled_at, rules)
