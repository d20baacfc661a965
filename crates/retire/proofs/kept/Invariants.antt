-- `retire::kept` meets its contract. The loop's invariant: of the own rules, those below `i` are counted.
use Rattle.retire.proofs.Covered.{Keeping}
use Rattle.retire.proofs.kept.Given as goal

abbrev pub invariant-loop-i : goal.invariant-loop-i
invariant-loop-i l = Keeping l.image l.count l.found l.i
