-- What the rules come to for ticks: the tick never goes back, a call that is old enough ends, a younger one stays, and what is reported is how many ended.
use mathlib.Core.Path.{◌≡◌, refl}
use mathlib.Core.Bool.{Bool}
use mathlib.Core.List.{List, [], ◌∷◌, map}
use Prim.Native.Nat.{ℕ, ◌+◌, ◌≤◌, ◌<◌}
use native.Mathlib.Omega.{arith}
use lib.Dec.{ltb}
use lib.ListN.{get_or, get_or-map}
use borrow.Author.Tests.{ltb-false, le-ltb, lt-ltb}
use Rattle.rules.specs.State.{Pending, Slot, free, peer, State}
use Rattle.rules.specs.Pending.{expired, remove_calls, count_slot, count_in, pending_in, pending_all}
use Rattle.rules.specs.Awaited.{is_waiting, waits_young}
use Rattle.rules.specs.Calls.{Step, tick}
use Rattle.rules.specs.declared.Ticked.{Ticked}
use Rattle.wire.proofs.Tests.{choice}
use Rattle.rules.proofs.Waits.{ended_where_awaits, ended_where_count}

module _ {S : Type 0} (t : Pending → Bool) where
  removed_count : (x : Slot S) → pending_in (remove_calls t x) + count_slot t x ≡ pending_in x
  removed_count free = refl
  removed_count (peer p) = ended_where_count t p.pending

  -- those that ended and those that stay are all
  pub removed_all : (l : List (Slot S)) → pending_all (map (remove_calls t) l) + count_in t l ≡ pending_all l
  unfolding pending_all count_in
  removed_all [] = refl
  removed_all (x ∷ l) = omega (arith, removed_count x, removed_all l)

module _ {S : Type 0} (s : State S) (now limit : ℕ) where
  -- refused exactly where the tick is below the last one (rule 8.12)
  pub tick_low : now < s.tick → (tick s now limit).result.answer ≡ 41
  unfolding tick
  tick_low h = rw (lt-ltb now s.tick h)

  pub tick_done : s.tick ≤ now → (tick s now limit).result.answer ≡ 0
  unfolding tick
  tick_done h = rw (le-ltb now s.tick h)

  -- the tick never goes back
  pub tick_rises : s.tick ≤ (tick s now limit).state.tick
  unfolding tick
  tick_rises =
      choice (λ (z : Step S Ticked). s.tick ≤ z.state.tick) (ltb now s.tick) _ _ (λ e. omega arith) (λ e. ltb-false now s.tick e)

  -- what is reported is how many calls fewer are pending
  pub tick_reports : pending_all (tick s now limit).state.slots + (tick s now limit).result.ended ≡ pending_all s.slots
  unfolding tick
  tick_reports =
      choice (λ (z : Step S Ticked). pending_all z.state.slots + z.result.ended ≡ pending_all s.slots) (ltb now s.tick) _ _
      (λ e. omega arith) (λ e. removed_all (expired now limit) s.slots)

  -- behind a tick the slot's peer awaits a reply exactly where it did, by a call that is less than `limit` ticks old (rule 8.12)
  pub tick_waits : s.tick ≤ now → (j c r : ℕ) → is_waiting c r (get_or (tick s now limit).state.slots j free) ≡ waits_young now limit c r (get_or s.slots j free)
  unfolding tick
  tick_waits h j c r =
      rw (le-ltb now s.tick h, get_or-map (remove_calls (expired now limit)) s.slots j free) (go (get_or s.slots j free))
    where
      go : (x : Slot S) → is_waiting c r (remove_calls (expired now limit) x) ≡ waits_young now limit c r x
      go free = refl
      go (peer p) = ended_where_awaits (expired now limit) c r p.pending
