-- Reports as numbers, for what is written and printed, and whether an offering goes on after one (rules 7.4, 8.11 and 9.5).
use Rattle.std.specs.Prelude.{Bool, not, ◌&&◌, ◌||◌, List, [], ◌∷◌, ◌++◌, ℕ, eqb, leb, ltb, length, Option, Some, None}
use Rattle.policy.specs.Decisions.{decider_words}
use Rattle.policy.specs.declared.Decider.{Decider}
use Rattle.rules.specs.declared.Receiver.{Receiver}
use Rattle.rules.specs.declared.Receiver.TheVariants as to
use Rattle.rules.specs.declared.Connected.{Connected}
use Rattle.rules.specs.declared.Owned.{Owned}
use Rattle.rules.specs.declared.Taken.{Taken}
use Rattle.rules.specs.declared.Gone.{Gone}
use Rattle.rules.specs.declared.Ticked.{Ticked}

-- a receiver's kind, the peer's number or the mask, and the count of set slots (rule 7.4)
abbrev pub receiver_words : Receiver → List ℕ
receiver_words to.Nobody = 0 ∷ 0 ∷ 0 ∷ []
receiver_words to.Bus = 1 ∷ 0 ∷ 0 ∷ []
receiver_words (to.Peer n) = 2 ∷ n ∷ 0 ∷ []
receiver_words (to.Slots mask count) = 3 ∷ mask ∷ count ∷ []

-- who decided, in two numbers, and zeros where nothing is shown (rule 6.9)
abbrev pub shown_words : Option Decider → List ℕ
shown_words None = 0 ∷ 0 ∷ []
shown_words (Some d) = decider_words d

-- ---- a report in seven words: answer, bytes taken, a receiver or what is reported in its place, and who decided (rule 8.11)

abbrev pub plain_words : ℕ → List ℕ
plain_words a = a ∷ 0 ∷ 0 ∷ 0 ∷ 0 ∷ 0 ∷ 0 ∷ []

abbrev pub connected_words : Connected → List ℕ
connected_words r = r.answer ∷ 0 ∷ 0 ∷ r.number ∷ r.slot ∷ shown_words r.rule

abbrev pub owned_words : Owned → List ℕ
owned_words r = r.answer ∷ 0 ∷ 0 ∷ 0 ∷ 0 ∷ shown_words r.rule

abbrev pub taken_words : Taken → List ℕ
taken_words r = r.judgement.answer ∷ r.taken ∷ (receiver_words r.judgement.receiver ++ shown_words r.judgement.rule)

abbrev pub gone_words : Gone → List ℕ
gone_words r = r.answer ∷ 0 ∷ 0 ∷ r.bytes ∷ 0 ∷ 0 ∷ 0 ∷ []

abbrev pub ticked_words : Ticked → List ℕ
ticked_words r = r.answer ∷ 0 ∷ 0 ∷ r.ended ∷ 0 ∷ 0 ∷ 0 ∷ []

-- ---- the calls of an offering (rule 9.5)

-- an answer behind which nothing more of the piece is offered (rule 9.5)
abbrev pub is_stop : ℕ → Bool
is_stop a = (leb 1 a && leb a 9) || (leb 30 a && leb a 51)

-- the offering goes on: no such answer came, and bytes are left (rule 9.5)
abbrev pub goes_on : Taken → List ℕ → Bool
goes_on r p = not (is_stop r.judgement.answer) && ltb r.taken (length p)

-- the answers to a piece that ended a message without a fault: it was judged (rule 9.1)
abbrev pub is_judged : ℕ → Bool
is_judged a = eqb a 0 || (leb 20 a && leb a 26)
