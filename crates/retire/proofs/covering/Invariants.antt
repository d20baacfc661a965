-- `retire::covering` meets its contract. The loop's invariant: of the own rules, those below `i` are counted.
use Rattle.retire.proofs.Covered.{Covering}
use Rattle.retire.proofs.covering.Given as goal

abbrev pub invariant-loop-i : goal.invariant-loop-i
invariant-loop-i l = Covering l.image l.name l.count l.found l.i
