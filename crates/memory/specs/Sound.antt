-- A good state as a fact: sixteen slots that keep the rules, numbers of 32 bits, a tick of 64 and bytes of 8. Memory is good exactly where it is the bytes of a sound
-- state, and every call leaves one (rule 10.6).
use Rattle.std.specs.Prelude.{Bool, true, ◌&&◌, List, ◌≡◌, ℕ, ◌<◌, ltb, length}
use Rattle.wire.specs.Lists.{every}
use Rattle.stream.specs.Tail.{Tail}
use Rattle.rules.specs.State.{Slot, free, peer, State}
use Rattle.memory.specs.Good.{good_slots, good}
use Rattle.memory.specs.Layout.{memory_length}

abbrev pub word32 : ℕ → Bool
word32 n = ltb n 4294967296

-- the numbers that a call or a message brings are of 32 bits
unfoldable pub narrow : Slot Tail → Bool
narrow free = true
narrow (peer p) = word32 p.uid && every word32 p.gids && every (λ w. word32 w.serial) p.pending

abbrev pub octet : ℕ → Bool
octet b = ltb b 256

-- the bytes of a head are bytes
unfoldable pub head_octets : Slot Tail → Bool
head_octets free = true
head_octets (peer p) = every octet p.stream.head

pub record Sound (s : State Tail) : Type 0 where
  pub sixteen : length s.slots ≡ 16
  pub fits : s.last < 4294967296
  pub ticks : s.tick < 18446744073709551616
  pub slots : good_slots s.slots s.last s.tick s.slots ≡ true
  pub narrows : every narrow s.slots ≡ true
  pub octets : every head_octets s.slots ≡ true

-- good memory, as what a function on it requires: its length stands by itself
pub record Held (m : List ℕ) : Type 0 where
  pub sized : length m ≡ memory_length
  pub held : good m ≡ true
