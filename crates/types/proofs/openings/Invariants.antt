-- `types::openings` meets its contract.
use Rattle.std.proofs.Common.{◌-◌, length}
use Rattle.types.specs.Promises.{OpenedAt}
use Rattle.types.proofs.openings.Given as goal

abbrev pub invariant-loop-j : goal.invariant-loop-j
invariant-loop-j l = OpenedAt l.sig l.i l.j

abbrev pub decreases-loop-j : goal.decreases-loop-j
decreases-loop-j l = length l.sig - l.j
