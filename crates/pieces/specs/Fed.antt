-- What the functions on a slot's stream require and ensure.
use Rattle.std.specs.Prelude.{◌≡◌, true, false, List, ◌++◌, ℕ, ◌+◌, ◌-◌, ◌≤◌, ◌<◌, min, length, take, drop, replicate}
use Rattle.wire.specs.Bytes.{pad}
use Rattle.wire.specs.Words.{word_at}
use Rattle.wire.specs.declared.Order.TheVariants.{Little}
use Rattle.header.specs.Header.{read_header}
use Rattle.header.specs.declared.Header.{Header}
use Rattle.std.specs.Prelude.{Ok}
use Rattle.image.specs.Promises.{GoodImage}
use Rattle.stream.specs.Stream.{Offer}
use Rattle.stream.specs.Tail.{Tail, closed, good_tail}
use Rattle.stream.specs.Promises.{verdict_of}
use Rattle.stream.specs.declared.Advance.{Advance}
use Rattle.rules.specs.State.{peer, put_slot, with_stream}
use Rattle.memory.specs.Layout.{memory_length, slot_start, taken_at, first_byte, head_room, stream_length, head_offset, byte_offset}
use Rattle.memory.specs.Encoding.{stream_bytes, memory_of, state_of}
use Rattle.slots.specs.Slots.{peer_at, Seated}

-- the stream that its bytes in a slot say
abbrev pub stream_in : List ℕ → Tail
stream_in x = record { taken = word_at Little x 0; head = take (min (word_at Little x head_offset) head_room) (drop byte_offset x) }

-- x is the bytes of a good open stream
pub record Opens (x : List ℕ) : Type 0 where
  pub sized : length x ≡ stream_length
  pub bytes : x ≡ stream_bytes (stream_in x)
  pub good : good_tail (stream_in x) ≡ true
  pub runs : closed (stream_in x) ≡ false

-- what an offer comes to: r reports it, and x is the bytes of the stream that it leaves
pub record Fed (o : Offer Tail) (r : Advance) (x : List ℕ) : Type 0 where
  pub taken : r.taken ≡ o.taken
  pub verdict : verdict_of (pad head_room o.stream.head) r.event ≡ o.verdict
  pub bytes : x ≡ stream_bytes o.stream

-- what an offer to slot i comes to, in memory
pub record FedAt (m : List ℕ) (i : ℕ) (o : Offer Tail) (r : Advance) (after : List ℕ) : Type 0 where
  pub taken : r.taken ≡ o.taken
  pub verdict : verdict_of (pad head_room o.stream.head) r.event ≡ o.verdict
  pub bytes : after ≡ take (slot_start i + taken_at) m ++ (stream_bytes o.stream ++ drop (slot_start i + taken_at + stream_length) m)
  pub memory : after ≡ memory_of (put_slot (state_of m) i (peer (with_stream (peer_at m i) o.stream)))

-- ---- a whole message

-- memory with zeros over the stream of slot i
abbrev pub cleared : List ℕ → ℕ → List ℕ
cleared m i = take (slot_start i + taken_at) m ++ (replicate stream_length 0 ++ drop (slot_start i + taken_at + stream_length) m)

-- the first n bytes of the head that slot i keeps
abbrev pub head_in : List ℕ → ℕ → ℕ → List ℕ
head_in m i n = take n (drop (slot_start i + first_byte) m)

-- what stands behind them in the head's room
abbrev pub behind_in : List ℕ → ℕ → ℕ → List ℕ
behind_in m i n = take (head_room - n) (drop (slot_start i + first_byte + n) m)

-- slot i keeps a whole head x and nothing behind it, and is a peer's of good memory once its stream is cleared
pub record Completed (image m : List ℕ) (i : ℕ) (x : Header) : Type 0 where
  pub good : GoodImage image
  pub sized : length m ≡ memory_length
  pub below : i < 16
  pub seat : Seated (cleared m i) i
  pub read : read_header (head_in m i x.head) ≡ Ok x
  pub small : x.head ≤ head_room
  pub behind : behind_in m i x.head ≡ replicate (head_room - x.head) 0
