-- What the private functions of a judgement require and ensure, each in the terms of a part of `judged`.
use Rattle.std.specs.Prelude.{◌≡◌, Bool, List, ℕ}
use Rattle.header.specs.declared.Header.{Header}
use Rattle.policy.specs.Matching.{message_of}
use Rattle.policy.specs.Decisions.{transaction_decision}
use Rattle.policy.specs.declared.Decision.{Decision}
use Rattle.policy.specs.Names.{names_in}
use Rattle.rules.specs.Judge.{to_bus, delivered, to_peer, reaches, to_all, reply, directed}
use Rattle.rules.specs.Calls.{slot_at}
use Rattle.rules.specs.declared.Judgement.{Judgement}
use Rattle.memory.specs.Encoding.{state_of}
use Rattle.slots.specs.Slots.{peer_at}
use Rattle.waits.specs.Waits.{JudgementLeft}
use Rattle.addresses.specs.declared.Destination.{Destination}
use Rattle.addresses.specs.Destinations.{address_of}

-- ---- policy between two slots

-- what policy says of a message, asked of the peer in slot i about the names in some cells
pub record Asks (image : List ℕ) (direction : ℕ) (m : List ℕ) (i : ℕ) (names head : List ℕ) (x : Header) (r : Decision) : Type 0 where
  pub is : r ≡ transaction_decision image direction (record { 0 = (peer_at m i).uid }) (peer_at m i).gids (names_in names) (message_of head x)

-- what policy says of a message, asked of the subject about the other's names
pub record Says (image : List ℕ) (direction : ℕ) (m : List ℕ) (subject other : ℕ) (head : List ℕ) (x : Header) (r : Decision) : Type 0 where
  pub is : r
      ≡ transaction_decision image direction (record { 0 = (peer_at m subject).uid }) (peer_at m subject).gids (peer_at m other).names (message_of head x)

-- ---- what is judged

pub record ToBus (image m : List ℕ) (i : ℕ) (head : List ℕ) (x : Header) (r : Judgement) : Type 0 where
  pub is : r ≡ (to_bus image (state_of m) (peer_at m i) (message_of head x)).judgement

pub record Reaches (image m : List ℕ) (i k : ℕ) (head : List ℕ) (x : Header) (r : Bool) : Type 0 where
  pub is : r ≡ reaches image (peer_at m i) (message_of head x) (slot_at (state_of m) k)

pub record ToAll (image m : List ℕ) (i : ℕ) (head : List ℕ) (x : Header) (r : Judgement) : Type 0 where
  pub is : r ≡ (to_all image (state_of m) (peer_at m i) (message_of head x)).judgement

-- a message that may pass to a peer
pub record Delivers (m : List ℕ) (i j : ℕ) (x : Header) (r : Judgement) (m' : List ℕ) : Type 0 where
  pub left : JudgementLeft (delivered (state_of m) i (peer_at m i) (peer_at m j) x) r m'

pub record ToPeer (image m : List ℕ) (i j : ℕ) (head : List ℕ) (x : Header) (r : Judgement) (m' : List ℕ) : Type 0 where
  pub left : JudgementLeft (to_peer image (state_of m) i (peer_at m i) (peer_at m j) (message_of head x) x) r m'

pub record Replies (m : List ℕ) (i : ℕ) (to : Destination) (x : Header) (r : Judgement) (m' : List ℕ) : Type 0 where
  pub left : JudgementLeft (reply (state_of m) (peer_at m i) (address_of to) x) r m'

pub record Directs (image m : List ℕ) (i : ℕ) (to : Destination) (head : List ℕ) (x : Header) (r : Judgement) (m' : List ℕ) : Type 0 where
  pub left : JudgementLeft (directed image (state_of m) i (peer_at m i) (address_of to) (message_of head x) x) r m'
