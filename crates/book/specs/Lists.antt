-- A list of calls; what the model answers to it (rules 11.1 and 11.3); and what a run of the guard's calls is, each what its contract says (rule 12.1).
use Rattle.std.specs.Prelude.{cond, List, [], ◌∷◌, ◌≡◌, ℕ, ◌<◌, eqb, length}
use Rattle.wire.specs.Bytes.{Below}
use Rattle.image.specs.Good.{image_answer}
use Rattle.rules.specs.State.{State}
use Rattle.rules.specs.Calls.{Step, stays, empty, connect, own, release, piece, disconnect, tick, no_connect, no_own, no_piece}
use Rattle.rules.specs.declared.Connected.{Connected}
use Rattle.rules.specs.declared.Owned.{Owned}
use Rattle.rules.specs.declared.Taken.{Taken}
use Rattle.rules.specs.declared.Gone.{Gone}
use Rattle.rules.specs.declared.Ticked.{Ticked}
use Rattle.memory.specs.Calls.{Did, start_on, connect_on, own_on, release_on, piece_on, disconnect_on, tick_on}
use Rattle.memory.specs.Layout.{memory_length}
use Rattle.memory.specs.Encoding.{memory_of}
use Rattle.rules.specs.View.{seen}
use Rattle.book.specs.Book.{books, tail_view}

-- each with its arguments, and nothing of the guard's memory; a tick's are the new tick and the limit (rule 11.1)
pub data Call : Type 0 where
  starts : Call
  connects : List ℕ → ℕ → List ℕ → Call
  claims : List ℕ → ℕ → List ℕ → Call
  releases : ℕ → List ℕ → Call
  offers : List ℕ → ℕ → List ℕ → Call
  leaves : ℕ → Call
  ticks : ℕ → ℕ → Call

-- all that a call reports (rule 11.3)
pub data Answer : Type 0 where
  plain : ℕ → Answer
  connected : Connected → Answer
  owned : Owned → Answer
  taken : Taken → Answer
  gone : Gone → Answer
  ticked : Ticked → Answer

-- ---- the model

-- what the model says and holds after a call (rule 11.1)
pub record ModelStep : Type 0 where
  pub answer : Answer
  pub state : State (List ℕ)

abbrev pub told_step : {R : Type 0} → (R → Answer) → Step (List ℕ) R → ModelStep
told_step say s = record { answer = say s.result; state = s.state }

-- a step under an image; where the image has an answer of its own, that one, and nothing changes (rules 5.9 and 8.1)
abbrev pub under_image : {S R : Type 0} → (ℕ → R) → List ℕ → State S → Step S R → Step S R
under_image refuse image b step = cond (eqb (image_answer image) 0) step (stays b (refuse (image_answer image)))

-- every call, refused or not, answers and changes the model; no answer comes from memory (rule 11.3)
unfoldable pub model_step : State (List ℕ) → Call → ModelStep
model_step b starts = record { answer = plain 0; state = empty }
model_step b (connects image uid gids) = told_step connected (under_image no_connect image b (connect books image b uid gids))
model_step b (claims image n name) = told_step owned (under_image no_own image b (own image b n name))
model_step b (releases n name) = told_step plain (release b n name)
model_step b (offers image n bytes) = told_step taken (under_image no_piece image b (piece books image b n bytes))
model_step b (leaves n) = told_step gone (disconnect books b n)
model_step b (ticks now limit) = told_step ticked (tick b now limit)

-- what the model says to a list of calls (rule 11.3)
unfoldable pub answers : State (List ℕ) → List Call → List Answer
answers b [] = []
answers b (c ∷ cs) = (model_step b c).answer ∷ answers (model_step b c).state cs

-- what the model holds after a list of calls (rule 11.3)
unfoldable pub after : State (List ℕ) → List Call → State (List ℕ)
after b [] = b
after b (c ∷ cs) = after (model_step b c).state cs

-- ---- a run of the guard

-- arguments that fit in their types: numbers of 32 bits, ticks of 64, and bytes
abbrev pub FitsTypes : Call → Type 0
FitsTypes starts = Unit {0}
FitsTypes (connects image uid gids) = (uid < 4294967296) × Below 4294967296 gids
FitsTypes (claims image n name) = Unit {0}
FitsTypes (releases n name) = Unit {0}
FitsTypes (offers image n bytes) = Below 256 bytes
FitsTypes (leaves n) = Unit {0}
FitsTypes (ticks now limit) = now < 18446744073709551616

abbrev pub AllFit : List Call → Type 0
AllFit [] = Unit {0}
AllFit (c ∷ cs) = FitsTypes c × AllFit cs

-- one call from memory m to memory e, as its `ensures` says it (rules 8.9 and 12.1)
pub data Ran (m e : List ℕ) : Call → Answer → Type 0 where
  ran_start : {r : ℕ} → Did (start_on m) r e → Ran m e starts (plain r)
  ran_connect : {image : List ℕ} {uid : ℕ} {gids : List ℕ} {r : Connected} → uid < 4294967296 → Below 4294967296 gids
      → Did (connect_on image m uid gids) r e
      → Ran m e (connects image uid gids) (connected r)
  ran_own : {image : List ℕ} {n : ℕ} {name : List ℕ} {r : Owned} → Did (own_on image m n name) r e → Ran m e (claims image n name) (owned r)
  ran_release : {n : ℕ} {name : List ℕ} {r : ℕ} → Did (release_on m n name) r e → Ran m e (releases n name) (plain r)
  ran_piece : {image : List ℕ} {n : ℕ} {bytes : List ℕ} {r : Taken} → Below 256 bytes
      → Did (piece_on image m n bytes) r e
      → Ran m e (offers image n bytes) (taken r)
  ran_leave : {n : ℕ} {r : Gone} → Did (disconnect_on m n) r e → Ran m e (leaves n) (gone r)
  ran_tick : {now limit : ℕ} {r : Ticked} → now < 18446744073709551616 → Did (tick_on m now limit) r e → Ran m e (ticks now limit) (ticked r)

-- calls one after the other, each with the memory as the last left it (rule 12.1)
pub data Run : List ℕ → List Call → List Answer → List ℕ → Type 0 where
  done : {m : List ℕ} → Run m [] [] m
  then : {m d e : List ℕ} {c : Call} {a : Answer} {cs : List Call} {rest : List Answer}
      → Ran m d c a
      → Run d cs rest e
      → Run m (c ∷ cs) (a ∷ rest) e

-- these calls, made from a start over memory of the right length or from an empty guard on, have left memory m (rule 12.1)
pub data Reached (m : List ℕ) : List Call → Type 0 where
  since_start : {k : List ℕ} {cs : List Call} {given : List Answer} → length k ≡ memory_length → Run k (starts ∷ cs) given m → Reached m (starts ∷ cs)
  since_empty : {cs : List Call} {given : List Answer} → Run (memory_of empty) cs given m → Reached m cs

-- ---- answers

-- the number of an answer
abbrev pub number_of : Answer → ℕ
number_of (plain a) = a
number_of (connected r) = r.answer
number_of (owned r) = r.answer
number_of (taken r) = r.judgement.answer
number_of (gone r) = r.answer
number_of (ticked r) = r.answer

-- 51 is no answer among these (rule 11.3)
abbrev pub Never51 : List Answer → Type 0
Never51 [] = Unit {0}
Never51 (a ∷ l) = (number_of a ≡ 51 → ⊥) × Never51 l

-- ---- the claim

-- what calls answered and what they left is what the model says of them from state b on (rule 12.1)
pub record Agrees (b : State (List ℕ)) (cs : List Call) (given : List Answer) (e : List ℕ) : Type 0 where
  pub answered : given ≡ answers b cs
  pub never51 : Never51 given
  pub memory : e ≡ memory_of (seen tail_view (after b cs))
