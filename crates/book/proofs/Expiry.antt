-- What a tick makes of one pending call, and that it changes nobody's number or address.
use mathlib.Core.Path.{◌≡◌, refl, ap, ap₂, ◌∙◌}
use mathlib.Core.Bool.{Bool, true, false, not, cond, ◌&&◌, or-false}
use mathlib.Core.Logic.{inl, inr}
use mathlib.Core.List.{List, [], ◌∷◌, ◌++◌, map}
use mathlib.Core.Option.{Option, none, some}
use Prim.Native.Nat.{ℕ, ◌<◌}
use native.Mathlib.Omega.{arith}
use lib.Dec.{ltb}
use lib.ListN.{length, length-map, get_or-map}
use Rattle.wire.specs.Bytes.{same}
use Rattle.wire.specs.Lists.{any}
use Rattle.wire.proofs.Texts.{either, both_first}
use Rattle.wire.proofs.Tests.{clash, refute, or_left, or_right, by_test, choice}
use Rattle.policy.specs.Names.{bus_name}
use Rattle.rules.specs.State.{Pending, Slot, free, peer, State, is_peer}
use Rattle.rules.specs.Addresses.{bus, answers_to, found, resolve}
use Rattle.rules.specs.Pending.{is_call, same_call, expired, ended_where, remove_calls}
use Rattle.rules.specs.Calls.{Step, slot_at, tick}
use Rattle.rules.specs.declared.Ticked.{Ticked}
use Rattle.rules.proofs.Fewer.{fewer_length, ended_where_fewer}
use Rattle.rules.proofs.Any.{first_once, rest_distinct}
use Rattle.rules.proofs.Waits.{has_serial, ok_pending, call_callee, call_serial, call_own}
use Rattle.rules.proofs.View.{first_over}

-- ---- one of a list passes a test

any_there : {A : Type 0} (t : A → Bool) (us : List A) (w : A) (vs : List A) → t w ≡ true → any t (us ++ (w ∷ vs)) ≡ true
any_there t [] w vs h = or_left (t w) (any t vs) h
any_there t (u ∷ us) w vs h = or_right (t u) (any t (us ++ (w ∷ vs))) (any_there t us w vs h)

any_first : {A : Type 0} (t u : A → Bool) (xs : List A) → any (λ x. t x && u x) xs ≡ true → any t xs ≡ true
any_first t u [] h = h
any_first t u (x ∷ xs) h =
    elim (either (t x && u x) (any (λ y. t y && u y) xs) h) [
      | inl p ↦ or_left (t x) (any t xs) (both_first (t x) (u x) p)
      | inr p ↦ or_right (t x) (any t xs) (any_first t u xs p)
    ]

-- ---- a call stands once with its caller, so that its own age decides

module _ (now limit : ℕ) where
  abbrev old : Pending → Bool
  old v = expired now limit v

  pub one_young : (us : List Pending) (w : Pending) (vs : List Pending) → ok_pending (us ++ (w ∷ vs)) ≡ true
      → any (λ v. is_call w.callee w.serial v && not (old v)) (us ++ (w ∷ vs)) ≡ not (old w)
  one_young [] w vs e =
      let is = is_call w.callee w.serial in
      let n : any (λ v. is v && not (old v)) vs ≡ false
      = refute (any (λ v. is v && not (old v)) vs) (λ h. clash (any_first is (λ v. not (old v)) vs h) (first_once has_serial same_call w vs e)) in
      rw (call_own w, n) (or-false (not (old w)))
  one_young (u ∷ us) w vs e =
      let is = is_call w.callee w.serial in
      by_test (is u)
      (λ p. let k : same_call u w ≡ true = rw (call_callee w.callee w.serial u p, call_serial w.callee w.serial u p) (call_own w) in
      absurd (clash (any_there (same_call u) us w vs k) (first_once has_serial same_call u (us ++ (w ∷ vs)) e)))
      (λ p. rw p (one_young us w vs (rest_distinct has_serial same_call u (us ++ (w ∷ vs)) e)))

-- where one call passes the test, fewer are left
pub ended_fewer : (t : Pending → Bool) (us : List Pending) (w : Pending) (vs : List Pending) → t w ≡ true
    → length (ended_where t (us ++ (w ∷ vs))) < length (us ++ (w ∷ vs))
unfolding ended_where
ended_fewer t [] w vs h = rw h (let l = fewer_length (ended_where_fewer t vs) in omega arith)
ended_fewer t (u ∷ us) w vs h =
    let l = ended_fewer t us w vs h in
    choice (λ (ws : List Pending). length ws < length (u ∷ (us ++ (w ∷ vs)))) (t u) _ _ (λ p. omega arith) (λ p. omega arith)

-- ---- addresses

module _ {S : Type 0} where
  removed_answers : (t : Pending → Bool) (text : List ℕ) (x : Slot S) → answers_to text (remove_calls t x) ≡ answers_to text x
  unfolding answers_to
  removed_answers t text free = refl
  removed_answers t text (peer p) = refl

  removed_resolve : (t : Pending → Bool) (l : List (Slot S)) (d : Option (List ℕ)) → resolve (map (remove_calls t) l) d ≡ resolve l d
  unfolding resolve
  removed_resolve t l none = refl
  removed_resolve t l (some text) =
      ap₂ (λ (n i : ℕ). cond (same text bus_name) bus (found n i)) (length-map l (remove_calls t))
      (first_over (remove_calls t) (answers_to text) (answers_to text) (removed_answers t text) l)

  removed_peer : (t : Pending → Bool) (c : ℕ) (x : Slot S) → is_peer c (remove_calls t x) ≡ is_peer c x
  removed_peer t c free = refl
  removed_peer t c (peer p) = refl

  pub tick_peer : (s : State S) (now limit c j : ℕ) → is_peer c (slot_at (tick s now limit).state j) ≡ is_peer c (slot_at s j)
  unfolding tick
  tick_peer s now limit c j =
      choice (λ (z : Step S Ticked). is_peer c (slot_at z.state j) ≡ is_peer c (slot_at s j)) (ltb now s.tick) _ _ (λ e. refl)
      (λ e. ap (is_peer c) (get_or-map (remove_calls (expired now limit)) s.slots j free) ∙ removed_peer (expired now limit) c (slot_at s j))

  pub tick_resolve : (s : State S) (now limit : ℕ) (d : Option (List ℕ)) → resolve (tick s now limit).state.slots d ≡ resolve s.slots d
  unfolding tick
  tick_resolve s now limit d =
      choice (λ (z : Step S Ticked). resolve z.state.slots d ≡ resolve s.slots d) (ltb now s.tick) _ _ (λ e. refl)
      (λ e. removed_resolve (expired now limit) s.slots d)
