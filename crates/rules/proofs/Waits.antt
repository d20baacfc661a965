-- A peer's pending calls, as a list: what is good in it by itself, and what one more and some fewer leave.
use mathlib.Core.Path.{◌≡◌, refl, sym}
use mathlib.Core.Logic.{inl, inr}
use mathlib.Core.Bool.{Bool, true, false, not, ◌&&◌, and-true, and-false}
use mathlib.Core.List.{List, [], ◌∷◌, ◌++◌}
use Prim.Native.Nat.{ℕ, ◌+◌, ◌≤◌}
use native.Mathlib.Omega.{arith}
use lib.Dec.{ltb, leb, eqb}
use lib.ListN.{length}
use borrow.Author.Tests.{eq-eqb, eqb-true, le-leb}
use Rattle.wire.specs.Lists.{any, distinct}
use Rattle.wire.proofs.Texts.{both_first, both_second, either}
use Rattle.rules.specs.State.{Pending, first_by, drop_first}
use Rattle.rules.specs.Pending.{is_call, same_call, is_to, awaits, ended, ended_where, count_where}
use Rattle.wire.proofs.Tests.{clash, by_test, or_grow, choice}
use Rattle.rules.proofs.First.{first_any}
use Rattle.rules.proofs.Fewer.{Fewer}
use Rattle.rules.proofs.Any.{any_fewer, first_once, rest_distinct, distinct_snoc}

abbrev pub call : ℕ → ℕ → ℕ → Pending
call callee serial tick = record { callee = callee; serial = serial; tick = tick }

-- ---- one pending call

pub call_callee : (c s : ℕ) (w : Pending) → is_call c s w ≡ true → w.callee ≡ c
call_callee c s w h = eqb-true w.callee c (both_first (eqb w.callee c) (eqb w.serial s) h)

pub call_serial : (c s : ℕ) (w : Pending) → is_call c s w ≡ true → w.serial ≡ s
call_serial c s w h = eqb-true w.serial s (both_second (eqb w.callee c) (eqb w.serial s) h)

pub call_own : (w : Pending) → is_call w.callee w.serial w ≡ true
call_own w = rw (eq-eqb w.callee w.callee refl, eq-eqb w.serial w.serial refl)

-- it waits exactly where the search for it ends at one
pub awaits_first : (c s : ℕ) (ws : List Pending) → awaits c s ws ≡ ltb (first_by (is_call c s) ws) (length ws)
unfolding awaits
awaits_first c s ws = first_any (is_call c s) ws

-- ---- good by themselves

-- serials are not 0, and no call stands twice
abbrev pub has_serial : Pending → Bool
has_serial w = leb 1 w.serial

abbrev pub ok_pending : List Pending → Bool
ok_pending ws = distinct has_serial same_call ws

-- a call waits by its own numbers alone
turned : (w : Pending) (c s k : ℕ) → is_call w.callee w.serial (call c s k) ≡ true → is_call c s w ≡ true
turned w c s k h =
    rw (
      eq-eqb w.callee c (sym (call_callee w.callee w.serial (call c s k) h)),
      eq-eqb w.serial s (sym (call_serial w.callee w.serial (call c s k) h)),
    )

pub ok_snoc : (ws : List Pending) (c s k : ℕ) → ok_pending ws ≡ true → 1 ≤ s → awaits c s ws ≡ false → ok_pending (ws ++ (call c s k ∷ [])) ≡ true
unfolding awaits
ok_snoc ws c s k e p n = distinct_snoc has_serial same_call (call c s k) (le-leb 1 s p) (λ w h. turned w c s k h) ws e n

pub awaits_fewer : {ws vs : List Pending} → Fewer ws vs → (c s : ℕ) → awaits c s vs ≡ true → awaits c s ws ≡ true
unfolding awaits
awaits_fewer f c s h = any_fewer (is_call c s) f h

-- a pending call stands once, so that it is not pending once it has ended (rule 7.9)
pub ended_ends : (c s : ℕ) (ws : List Pending) → ok_pending ws ≡ true → awaits c s (ended c s ws) ≡ false
unfolding awaits ended drop_first
ended_ends c s [] e = refl
ended_ends c s (w ∷ ws) e =
    choice (λ (l : List Pending). awaits c s l ≡ false) (is_call c s w) _ _
    (λ p. rw (← call_callee c s w p, ← call_serial c s w p) (first_once has_serial same_call w ws e))
    (λ p. rw p (ended_ends c s ws (rest_distinct has_serial same_call w ws e)))

-- the other calls still wait
pub ended_keeps : (c s d r : ℕ) (ws : List Pending) → (is_call c s (call d r 0) ≡ false) → awaits d r ws ≡ true → awaits d r (ended c s ws) ≡ true
unfolding awaits ended drop_first
ended_keeps c s d r [] n h = h
ended_keeps c s d r (w ∷ ws) n h =
    let later = ended_keeps c s d r ws n in
    choice (λ (l : List Pending). awaits d r l ≡ true) (is_call c s w) _ _
    (λ p. elim (either (is_call d r w) (awaits d r ws) h)
    [ inl q ↦ absurd (clash p (rw (call_callee d r w q, call_serial d r w q) n)) | inr q ↦ q ])
    (λ p. or_grow (is_call d r w) (awaits d r ws) (awaits d r (ended c s ws)) later h)

-- ---- ended by a test, which is the callee's for a disconnect and the age's for a tick

-- a call is pending still exactly where it was, and did not pass the test
pub ended_where_awaits : (t : Pending → Bool) (c s : ℕ) (ws : List Pending) → awaits c s (ended_where t ws) ≡ any (λ w. is_call c s w && not (t w)) ws
unfolding awaits ended_where
ended_where_awaits t c s [] = refl
ended_where_awaits t c s (w ∷ ws) =
    let ih = ended_where_awaits t c s ws in
    by_test (t w) (λ p. rw (p, and-false, ih)) (λ p. rw (p, and-true, ih))

-- a callee that is gone is awaited no longer
pub ended_to_ends : (c s : ℕ) (ws : List Pending) → awaits c s (ended_where (is_to c) ws) ≡ false
unfolding awaits ended_where
ended_to_ends c s [] = refl
ended_to_ends c s (w ∷ ws) =
    let ih = ended_to_ends c s ws in
    choice (λ (l : List Pending). awaits c s l ≡ false) (is_to c w) _ _ (λ p. ih) (λ p. rw p ih)

-- those that ended and those that stay are all
pub ended_where_count : (t : Pending → Bool) (ws : List Pending) → length (ended_where t ws) + count_where t ws ≡ length ws
unfolding ended_where count_where
ended_where_count t [] = refl
ended_where_count t (w ∷ ws) =
    let ih = ended_where_count t ws in
    by_test (t w) (λ p. rw p (omega (arith, ih))) (λ p. rw p (omega (arith, ih)))
