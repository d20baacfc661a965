-- `audit::are_calls_good` meets its contract.
use Rattle.audit.proofs.Calls.{Calling}
use Rattle.audit.proofs.are_calls_good.Given as goal

abbrev pub invariant-loop-j : goal.invariant-loop-j
invariant-loop-j l = Calling l.memory l.i l.tick l.least l.j

abbrev pub decreases-loop-j : goal.decreases-loop-j
decreases-loop-j l = l.j
