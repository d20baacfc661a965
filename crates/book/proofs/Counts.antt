-- A peer's pending calls are as a tally says: one law for a call that begins, one for a reply, and one over any test for calls that end otherwise.
use mathlib.Core.Path.{◌≡◌, refl, ap}
use mathlib.Core.Bool.{Bool, true, false≢true}
use mathlib.Core.List.{List, [], ◌∷◌, ◌++◌}
use Prim.Native.Nat.{ℕ, ◌+◌}
use native.Mathlib.Omega.{arith}
use lib.ListN.{length, length-append}
use Rattle.rules.specs.State.{Pending, drop_first}
use Rattle.rules.specs.Pending.{is_call, awaits, ended, ended_where, count_where}
use Rattle.wire.proofs.Tests.{choice}
use Rattle.rules.proofs.Waits.{call, ended_where_count}
use Rattle.book.specs.Tally.{Tally, no_calls, call_admitted, call_replied, calls_ended}

-- they are the calls that the tally says are waiting, and with those that ended they make all that were admitted
pub record Right (t : Tally) (ws : List Pending) : Type 0 where
  pub sum : length ws + (t.replied + t.otherwise) ≡ t.admitted
  pub are : ws ≡ t.waiting

-- of those that wait one ends
ended_one : (k s : ℕ) (ws : List Pending) → awaits k s ws ≡ true → length (ended k s ws) + 1 ≡ length ws
unfolding awaits ended drop_first
ended_one k s [] h = absurd (false≢true h)
ended_one k s (w ∷ ws) h =
    choice (λ (l : List Pending). length l + 1 ≡ length (w ∷ ws)) (is_call k s w) _ _ (λ p. omega arith)
    (λ p. let e = ended_one k s ws (rw p at h) in omega arith)

pub right_none : Right no_calls []
right_none = record { sum = refl; are = refl }

module _ (t : Tally) (ws : List Pending) (r : Right t ws) where
  pub right_admitted : (k s now : ℕ) → Right (call_admitted k s now t) (ws ++ (call k s now ∷ []))
  right_admitted k s now =
      record {
        sum = omega (arith, r.sum, length-append ws (call k s now ∷ []));
        are = ap (λ (l : List Pending). l ++ (call k s now ∷ [])) r.are;
      }

  pub right_replied : (k s : ℕ) → awaits k s ws ≡ true → Right (call_replied k s t) (ended k s ws)
  right_replied k s h = record { sum = omega (arith, r.sum, ended_one k s ws h); are = ap (ended k s) r.are }

  -- what ends otherwise is counted among the calls that the tally says are waiting
  pub right_ended : (test : Pending → Bool) → Right (calls_ended test t) (ended_where test ws)
  right_ended test =
      record {
        sum = omega (arith, r.sum, ended_where_count test ws, ap (count_where test) r.are);
        are = ap (ended_where test) r.are;
      }
