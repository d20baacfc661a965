-- `audit::are_names_good` meets its contract.
use Rattle.audit.proofs.Names.{Naming}
use Rattle.audit.proofs.are_names_good.Given as goal

abbrev pub invariant-loop-j : goal.invariant-loop-j
invariant-loop-j l = Naming l.memory l.i l.count l.j
