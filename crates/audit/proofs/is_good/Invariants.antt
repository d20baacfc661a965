-- `audit::is_good` meets its contract.
use Rattle.audit.proofs.Slots.{Auditing}
use Rattle.audit.proofs.is_good.Given as goal

abbrev pub invariant-loop-i : goal.invariant-loop-i
invariant-loop-i l = Auditing l.memory l.last l.tick l.i
