-- What the public functions on a stream require and ensure, in the terms of the definitions.
use Rattle.std.specs.Prelude.{true, List, ◌≡◌, ℕ, ◌≤◌, ◌<◌, length, take}
use Rattle.wire.specs.Bytes.{pad}
use Rattle.stream.specs.declared.Stream.{Stream}
use Rattle.stream.specs.declared.Event.{Event}
use Rattle.stream.specs.declared.Event.TheVariants.{More, Broken, Whole}
use Rattle.stream.specs.declared.Advance.{Advance}
use Rattle.stream.specs.Stream.{Verdict, more, broken, whole, verdict_answer, Offer, offer}
use Rattle.stream.specs.Tail.{Tail, judge, tails, good_tail}
use Rattle.header.specs.Faults.{fault_number}
use Rattle.header.specs.Fixed.{head_limit, message_limit}

-- the stream of which `taken` bytes were taken, and whose head is the first `stored` bytes of a region
abbrev pub tail_of : List ℕ → ℕ → ℕ → Tail
tail_of region taken stored = record { taken = taken; head = take stored region }

abbrev pub tail_in : List ℕ → Stream → Tail
tail_in region s = tail_of region s.taken s.stored

-- a good stream, open or closed
pub record GoodTail (region : List ℕ) (s : Stream) : Type 0 where
  pub inside : s.stored ≤ length region
  pub good : good_tail (tail_in region s) ≡ true

-- the verdict that an event is, with the head in a region
abbrev pub verdict_of : List ℕ → Event → Verdict
verdict_of region More = more
verdict_of region (Broken f) = broken (fault_number f)
verdict_of region (Whole x) = whole (take x.head region) x

-- the answer number of each case: a whole message is judged next, and 0 says no more than that (rule 9.1)
abbrev pub event_answer : Event → ℕ
event_answer More = 10
event_answer (Broken f) = fault_number f
event_answer (Whole x) = 0

-- a good open stream; the region is zero behind its head
pub record Open (region : List ℕ) (s : Stream) : Type 0 where
  pub sized : length region ≡ head_limit
  pub stored : s.stored ≤ head_limit
  pub counted : s.taken < message_limit
  pub padded : region ≡ pad head_limit (take s.stored region)
  pub good : good_tail (tail_in region s) ≡ true
  pub running : judge (tail_in region s) ≡ more

-- r and the region are what an offer comes to, of a piece of n bytes
pub record Gives (o : Offer Tail) (n : ℕ) (r : Advance) (region : List ℕ) : Type 0 where
  pub taken : r.taken ≡ o.taken
  pub verdict : verdict_of region r.event ≡ o.verdict
  pub answer : event_answer r.event ≡ verdict_answer o.verdict
  pub counted : r.stream.taken ≡ o.stream.taken
  pub kept : r.stream.stored ≡ length o.stream.head
  pub padded : region ≡ pad head_limit o.stream.head
  pub within : r.taken ≤ n
  pub few : r.stream.taken ≤ message_limit
  pub small : r.stream.stored ≤ head_limit

-- what a piece offered to the stream s comes to
pub record Advanced (region : List ℕ) (s : Stream) (piece : List ℕ) (r : Advance) (after : List ℕ) : Type 0 where
  pub gives : Gives (offer tails (tail_in region s) piece) (length piece) r after
