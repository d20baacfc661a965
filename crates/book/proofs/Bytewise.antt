-- A piece offered whole comes to its bytes offered one by one: over any step that a piece makes, of which four laws are asked.
use mathlib.Core.Path.{◌≡◌, refl, ◌∙◌}
use mathlib.Core.Bool.{true, false, false≢true}
use mathlib.Core.List.{List, [], ◌∷◌, ◌++◌, append_assoc, append-nil}
use Prim.Native.Nat.{ℕ, suc}
use lib.ListN.{length, drop, drop_of_length-le}
use borrow.Author.Tests.{ltb-false}
use Rattle.rules.specs.State.{State}
use Rattle.rules.specs.Judge.{refusal}
use Rattle.rules.specs.Calls.{Step, stays, no_piece}
use Rattle.rules.specs.declared.Judgement.{Judgement}
use Rattle.rules.specs.declared.Taken.{Taken}
use Rattle.wire.proofs.Tests.{by_test}
use Rattle.rules.specs.Places.{is_stop, goes_on}
use Rattle.book.specs.Split.{said}

-- the verdicts of an offering, and the state that it leaves
pub record Offering (S : Type 0) : Type 0 where
  pub said : List Judgement
  pub state : State S

-- these verdicts, and then those of an offering
abbrev pub said_before : {S : Type 0} → List Judgement → Offering S → Offering S
said_before vs a = record { said = vs ++ a.said; state = a.state }

-- the same step with one byte more taken
abbrev pub bumped : {S : Type 0} → Step S Taken → Step S Taken
bumped z = record { state = z.state; result = record { judgement = z.result.judgement; taken = suc z.result.taken } }

module _ {S : Type 0} (step : State S → List ℕ → Step S Taken) where
  -- every piece is refused, with an answer that is no verdict
  pub record Refuses (s : State S) : Type 0 where
    pub answer : ℕ
    pub silent : said (no_piece answer) ≡ []
    pub refused : (p : List ℕ) → step s p ≡ stays s (no_piece answer)

  -- an empty piece is refused, or is 10 with nothing taken
  pub data Idle (s : State S) : Type 0 where
    idle_refuses : Refuses s → Idle s
    idles : step s [] ≡ stays s (record { judgement = refusal 10; taken = 0 }) → Idle s

  -- a piece's first byte: refused, or joined without a verdict, or decided there and then
  pub data Way (s : State S) (b : ℕ) (p : List ℕ) : Type 0 where
    refuses : Refuses s → Way s b p
    joins : said (step s (b ∷ [])).result ≡ [] → step s (b ∷ p) ≡ bumped (step (step s (b ∷ [])).state p) → Way s b p
    decides : step s (b ∷ p) ≡ step s (b ∷ []) → (step s (b ∷ [])).result.taken ≡ 1
        → (is_stop (step s (b ∷ [])).result.judgement.answer ≡ true → Refuses (step s (b ∷ [])).state)
        → Way s b p

  pub record Laws : Type 0 where
    pub idle : (s : State S) → Idle s
    pub way : (s : State S) (b : ℕ) (p : List ℕ) → Way s b p

  -- the bytes one by one
  unfoldable pub bytewise : State S → List ℕ → Offering S
  bytewise s [] = record { said = []; state = s }
  bytewise s (b ∷ p) = said_before (said (step s (b ∷ [])).result) (bytewise (step s (b ∷ [])).state p)

  pub bytewise_none : (s : State S) → bytewise s [] ≡ record { said = []; state = s }
  unfolding bytewise
  bytewise_none s = refl

  -- in parts or whole
  pub bytewise_append : (s : State S) (p q : List ℕ) → bytewise s (p ++ q) ≡ said_before (bytewise s p).said (bytewise (bytewise s p).state q)
  unfolding bytewise
  bytewise_append s [] q = refl
  bytewise_append s (b ∷ p) q =
      let t = (step s (b ∷ [])).state in
      rw (bytewise_append t p q, append_assoc (said (step s (b ∷ [])).result) (bytewise t p).said (bytewise (bytewise t p).state q).said)

  -- what refuses is silent
  pub refused_silent : (s : State S) (p : List ℕ) → Refuses s → bytewise s p ≡ record { said = []; state = s }
  unfolding bytewise
  refused_silent s [] r = refl
  refused_silent s (b ∷ p) r = rw (r.refused (b ∷ []), r.silent) (refused_silent s p r)

  -- what a call with the piece p gives, and then the bytes that it left
  abbrev pub call_then : List ℕ → Step S Taken → Offering S
  call_then p z = said_before (said z.result) (bytewise z.state (drop z.result.taken p))

  module _ (laws : Laws) where
    pub call_first : (s : State S) (p : List ℕ) → bytewise s p ≡ call_then p (step s p)
    unfolding bytewise
    call_first s [] = elim (laws.idle s) [ idle_refuses r ↦ rw (r.refused [], r.silent) | idles e ↦ rw e ]
    call_first s (b ∷ p) =
        elim (laws.way s b p) [
          | refuses r ↦ rw (r.refused (b ∷ p), r.silent)
          | joins q e ↦ rw (e, q) (call_first (step s (b ∷ [])).state p)
          | decides e k f ↦ rw (e, k)
        ]

    -- an answer that ends an offering leaves a state that refuses
    stopped : (s : State S) (p : List ℕ) → is_stop (step s p).result.judgement.answer ≡ true → Refuses (step s p).state
    stopped s [] h = elim (laws.idle s) [ idle_refuses r ↦ rw (r.refused []) r | idles e ↦ absurd (false≢true (rw e at h)) ]
    stopped s (b ∷ p) h =
        elim (laws.way s b p) [
          | refuses r ↦ rw (r.refused (b ∷ p)) r
          | joins q e ↦ rw e (stopped (step s (b ∷ [])).state p (rw e at h))
          | decides e k f ↦ rw e (f (rw e at h))
        ]

    -- where the offering ends, the bytes left say nothing
    pub call_last : (s : State S) (p : List ℕ) → goes_on (step s p).result p ≡ false
        → bytewise s p ≡ record { said = said (step s p).result; state = (step s p).state }
    call_last s p h =
        let z = step s p in
        let left : bytewise z.state (drop z.result.taken p) ≡ record { said = []; state = z.state }
        = by_test (is_stop z.result.judgement.answer) (λ e. refused_silent z.state (drop z.result.taken p) (stopped s p e))
        (λ e. rw (drop_of_length-le p (ltb-false z.result.taken (length p) (rw e at h))) (bytewise_none z.state)) in
        call_first s p ∙ rw (left, append-nil (said z.result))
