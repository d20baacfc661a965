-- `wire::copy` meets its contract.
use Rattle.wire.proofs.Runs.{Copying}
use Rattle.wire.proofs.copy.Given as goal

abbrev pub invariant-loop-i : goal.invariant-loop-i
invariant-loop-i l = Copying l.initial.dst l.src l.dst l.i
