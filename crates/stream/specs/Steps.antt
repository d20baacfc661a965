-- What the functions on a stream require and ensure among themselves.
use Rattle.std.specs.Prelude.{List, ◌++◌, ◌≡◌, ℕ, ◌+◌, ◌-◌, ◌≤◌, ◌<◌, min, length, take, drop}
use Rattle.wire.specs.Bytes.{pad}
use Rattle.header.specs.Fixed.{fixed_length, head_limit, message_limit, head_length, fixed_part, measures}
use Rattle.stream.specs.declared.Stream.{Stream}
use Rattle.stream.specs.declared.Event.TheVariants.{More}
use Rattle.stream.specs.declared.Advance.{Advance}
use Rattle.stream.specs.Stream.{Verdict, more, broken, whole, Offer, offer}
use Rattle.stream.specs.Tail.{Tail, judge, tails}
use Rattle.stream.specs.Promises.{tail_in, Gives}

-- what follows once the latest byte of a stream is judged: o where the message is unfinished, and else nothing
abbrev pub follows : {S : Type 0} → Verdict → S → Offer S → Offer S
follows more s o = o
follows (broken a) s o = record { verdict = broken a; taken = 0; stream = s }
follows (whole h x) s o = record { verdict = whole h x; taken = 0; stream = s }

-- k bytes more were taken
abbrev pub bump_by : {S : Type 0} → ℕ → Offer S → Offer S
bump_by k o = record { verdict = o.verdict; taken = k + o.taken; stream = o.stream }

-- what a piece comes to, of a stream whose latest byte is still to be judged
unfoldable pub continued : Tail → List ℕ → Offer Tail
continued t p = follows (judge t) t (offer tails t p)

-- the same, of a piece of which the stream has the first `used` bytes
abbrev pub resumed : Tail → List ℕ → ℕ → Offer Tail
resumed t piece used = bump_by used (continued t (drop used piece))

pub record Resumed (region : List ℕ) (s : Stream) (piece : List ℕ) (used : ℕ) (r : Advance) (after : List ℕ) : Type 0 where
  pub gives : Gives (resumed (tail_in region s) piece used) (length piece) r after

-- a stream whose fixed part has come, and a piece of which it has the first `used` bytes; the region is zero behind its head
pub record Started (region : List ℕ) (s : Stream) (piece : List ℕ) (used : ℕ) : Type 0 where
  pub sized : length region ≡ head_limit
  pub padded : region ≡ pad head_limit (take s.stored region)
  pub above : fixed_length ≤ s.stored
  pub stored : s.stored ≤ head_limit
  pub within : used ≤ length piece

-- the fixed part has come perhaps with the latest byte
pub record Begun (region : List ℕ) (s : Stream) (piece : List ℕ) (used : ℕ) : Type 0 where
  pub started : Started region s piece used
  pub kept : s.stored ≡ min s.taken (head_length (take s.stored region))
  pub running : head_length (take s.stored region) < s.taken → judge (tail_in region s) ≡ more

-- the lengths that the fixed part says
pub record Measured (region : List ℕ) (s : Stream) (piece : List ℕ) (used head message : ℕ) : Type 0 where
  pub started : Started region s piece used
  pub sizes : fixed_part (take s.stored region) ≡ measures head message
  pub small : head ≤ head_limit
  pub below : s.taken ≤ message
  pub few : message ≤ message_limit

-- `Begun`, with these lengths
pub record InHead (region : List ℕ) (s : Stream) (piece : List ℕ) (used head message : ℕ) : Type 0 where
  pub measured : Measured region s piece used head message
  pub kept : s.stored ≡ min s.taken head
  pub running : head < s.taken → judge (tail_in region s) ≡ more

-- the same in the body
pub record InBody (region : List ℕ) (s : Stream) (piece : List ℕ) (used head message : ℕ) : Type 0 where
  pub whole : InHead region s piece used head message
  pub past : head < s.taken

-- the head has come, perhaps with the latest byte
pub record AtEnd (region : List ℕ) (s : Stream) (piece : List ℕ) (used head message : ℕ) : Type 0 where
  pub measured : Measured region s piece used head message
  pub kept : s.stored ≡ head
  pub reached : head ≤ s.taken

-- all that is left of a piece has been taken, in the body of a message whose head ends at `end`
abbrev pub all_taken : Stream → List ℕ → ℕ → ℕ → Advance
all_taken s piece used end =
    record { stream = record { taken = s.taken + (length piece - used); stored = end }; taken = length piece; event = More }

-- ---- bytes stored

pub record Room (region : List ℕ) (stored limit : ℕ) (piece : List ℕ) (used : ℕ) : Type 0 where
  pub sized : length region ≡ head_limit
  pub up : stored ≤ limit
  pub inside : limit ≤ head_limit
  pub within : used ≤ length piece

-- the k bytes of the piece from `used` on that have room below the limit stand behind the first `stored`
pub record Stored (region : List ℕ) (stored limit : ℕ) (piece : List ℕ) (used k : ℕ) (after : List ℕ) : Type 0 where
  pub many : k ≡ min (limit - stored) (length piece - used)
  pub bytes : after ≡ take stored region ++ (take k (drop used piece) ++ drop (stored + k) region)

-- ---- a stream in memory

-- the head has come, and just it is kept
pub record WholeTail (region : List ℕ) (s : Stream) (message : ℕ) : Type 0 where
  pub inside : s.stored ≤ length region
  pub above : fixed_length ≤ s.stored
  pub sizes : fixed_part (take s.stored region) ≡ measures s.stored message
  pub reached : s.stored ≤ s.taken
