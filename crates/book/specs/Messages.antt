-- The messages of a stream, the message that a piece ends, a broken head, and a pending call: what proofs/Consequences.antt speaks of.
use Rattle.std.specs.Prelude.{Ok, false, List, [], ◌∷◌, ◌++◌, ◌≡◌, ℕ, ◌+◌, length}
use Rattle.header.specs.declared.Header.{Header}
use Rattle.header.specs.Header.{read_header}
use Rattle.image.specs.Good.{image_answer}
use Rattle.stream.specs.Stream.{broken, whole, Streams, offer}
use Rattle.stream.specs.Tail.{Tail, judge, broken_at}
use Rattle.rules.specs.State.{Pending, peer, Peer, State, is_peer, first_by}
use Rattle.rules.specs.Calls.{slot_at}
use Rattle.memory.specs.Encoding.{state_of}
use Rattle.book.specs.Book.{first_verdict, is_whole, books}
use Rattle.book.specs.Split.{joined_pieces}

-- the bytes of one whole message: as many as its own length fields say (rule 2.3)
pub record WholeMessage (m : List ℕ) : Type 0 where
  pub header : Header
  pub read : read_header m ≡ Ok header
  pub sized : length m ≡ header.head + header.body

abbrev pub Messages : List (List ℕ) → Type 0
Messages [] = Unit {0}
Messages (m ∷ ms) = WholeMessage m × Messages ms

-- whole messages, and then bytes of one that is unbegun, unfinished or broken (rules 9.4 and 11.2)
pub record Parted (xs : List ℕ) : Type 0 where
  pub messages : List (List ℕ)
  pub present : List ℕ
  pub are : Messages messages
  pub unfinished : is_whole (first_verdict present) ≡ false
  pub bytes : xs ≡ joined_pieces messages ++ present

-- a piece of peer n is taken: the image passes, the peer is there, and its stream is open (rule 8.6)
pub record Takes {S : Type 0} (O : Streams S) (s : State S) (image : List ℕ) (n : ℕ) : Type 0 where
  pub passed : image_answer image ≡ 0
  pub sender : Peer S
  pub sits : slot_at s (first_by (is_peer n) s.slots) ≡ peer sender
  pub unbroken : O.closed sender.stream ≡ false

-- and it ends a message with head h, which reads as x, in the model's state b (rule 9.1)
pub record EndsMessage (b : State (List ℕ)) (image : List ℕ) (n : ℕ) (bytes h : List ℕ) (x : Header) : Type 0 where
  pub takes : Takes books b image n
  pub ended : (offer books takes.sender.stream bytes).verdict ≡ whole h x

-- in memory m peer n has a head that is broken with answer a, and no byte was taken behind the one that broke it (rule 10.4)
pub record BrokenIn (m : List ℕ) (n a : ℕ) : Type 0 where
  pub place : ℕ
  pub who : Peer Tail
  pub sits : slot_at (state_of m) place ≡ peer who
  pub number : who.number ≡ n
  pub reads : judge who.stream ≡ broken a
  pub found : who.stream.taken ≡ broken_at a who.stream.head

-- in memory m the peer of slot j has w among its pending calls (rule 1.2)
pub record PendingIn (m : List ℕ) (j : ℕ) (w : Pending) : Type 0 where
  pub who : Peer Tail
  pub sits : slot_at (state_of m) j ≡ peer who
  pub before : List Pending
  pub later : List Pending
  pub among : who.pending ≡ before ++ (w ∷ later)
