-- What a judgement leaves, and what is left where a call waits and where a reply ends the wait.
use Rattle.std.specs.Prelude.{◌≡◌, List, [], ◌∷◌, ◌++◌, ℕ}
use Rattle.header.specs.declared.Header.{Header}
use Rattle.stream.specs.Tail.{Tail}
use Rattle.rules.specs.State.{Peer, peer, put_slot, with_pending}
use Rattle.rules.specs.Judge.{Judged, waits, reply_to}
use Rattle.rules.specs.declared.Judgement.{Judgement}
use Rattle.tables.specs.Cut.{without}
use Rattle.memory.specs.Encoding.{memory_of, state_of}
use Rattle.slots.specs.Slots.{peer_at}

-- what a judgement leaves: r is its answer with its receiver, and m the bytes of its state
pub record JudgementLeft (j : Judged Tail) (r : Judgement) (m : List ℕ) : Type 0 where
  pub judgement : r ≡ j.judgement
  pub memory : m ≡ memory_of j.state

-- a call with this serial to the peer of this number waits
pub record Waits (m : List ℕ) (i callee serial : ℕ) (r : Judgement) (m' : List ℕ) : Type 0 where
  pub left : (receiver : Peer Tail) (x : Header) → receiver.number ≡ callee → x.serial ≡ serial
      → JudgementLeft (waits (state_of m) i (peer_at m i) receiver x) r m'

-- a reply of slot i's peer to the peer of slot j
pub record RepliesTo (m : List ℕ) (i j : ℕ) (x : Header) (r : Judgement) (m' : List ℕ) : Type 0 where
  pub left : JudgementLeft (reply_to (state_of m) j (peer_at m i) (peer (peer_at m j)) x) r m'

-- ---- pending calls written

-- one call more, with the last tick
pub record Began (m : List ℕ) (i callee serial : ℕ) (m' : List ℕ) : Type 0 where
  pub is : m'
      ≡ memory_of
      (put_slot (state_of m) i (peer (with_pending (peer_at m i) ((peer_at m i).pending ++ (record { callee = callee; serial = serial; tick = (state_of m).tick } ∷ [])))))

-- call k taken out
pub record CallRemoved (m : List ℕ) (i k : ℕ) (m' : List ℕ) : Type 0 where
  pub is : m' ≡ memory_of (put_slot (state_of m) i (peer (with_pending (peer_at m i) (without k (peer_at m i).pending))))
