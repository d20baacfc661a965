-- What a judgement requires and ensures.
use Rattle.std.specs.Prelude.{Ok, ◌≡◌, List, ℕ, length}
use Rattle.header.specs.declared.Header.{Header}
use Rattle.header.specs.Header.{read_header}
use Rattle.image.specs.Promises.{GoodImage}
use Rattle.rules.specs.Judge.{judged}
use Rattle.rules.specs.declared.Judgement.{Judgement}
use Rattle.memory.specs.Encoding.{state_of}
use Rattle.slots.specs.Slots.{peer_at, Seated}
use Rattle.waits.specs.Waits.{JudgementLeft}

-- a message whose head is whole, of the peer in slot i of good memory, under a good image
pub record JudgedMessage (image m : List ℕ) (i : ℕ) (head : List ℕ) (x : Header) : Type 0 where
  pub good : GoodImage image
  pub sender : Seated m i
  pub read : read_header head ≡ Ok x
  pub long : length head ≡ x.head

-- the judgement is that of the rules (rule 7.11), and memory is the bytes of the state that it leaves
abbrev pub Judges : List ℕ → List ℕ → ℕ → List ℕ → Header → Judgement → List ℕ → Type 0
Judges image m i head x r m' = JudgementLeft (judged image (state_of m) i (peer_at m i) head x) r m'
