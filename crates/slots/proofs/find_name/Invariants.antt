-- `slots::find_name` meets its contract.
use Rattle.std.proofs.Common.{ℕ, false, [], ◌≤◌, ◌<◌}
use Rattle.wire.specs.Bytes.{same}
use Rattle.memory.proofs.Search.{Said}
use Rattle.slots.specs.Slots.{peer_at}
use Rattle.slots.proofs.find_name.Given as goal

abbrev pub invariant-loop-j : goal.invariant-loop-j
invariant-loop-j l = (k : ℕ) → l.from ≤ k → k < l.j → Said (λ x. same x l.name) (peer_at l.memory l.i).names [] false k
