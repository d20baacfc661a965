-- `names::scan::gather` meets its contract.
use Rattle.names.specs.Scan.{Gathers}
use Rattle.names.proofs.scan.gather.Given as goal

abbrev pub invariant-loop-i : goal.invariant-loop-i
invariant-loop-i l = Gathers l.s l.at l.i l.seen
