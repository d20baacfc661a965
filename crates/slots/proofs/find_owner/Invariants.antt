-- `slots::find_owner` meets its contract.
use Rattle.std.proofs.Common.{ℕ, false, ◌≤◌, ◌<◌}
use Rattle.rules.specs.Calls.{is_owner}
use Rattle.memory.proofs.Search.{SaidOfSlot}
use Rattle.slots.proofs.find_owner.Given as goal

abbrev pub invariant-loop-i : goal.invariant-loop-i
invariant-loop-i l = (k : ℕ) → l.from ≤ k → k < l.i → SaidOfSlot (is_owner l.name) l.memory false k
