-- `matching::in_groups` meets its contract.
use Rattle.matching.proofs.Subjects.{Looking}
use Rattle.matching.proofs.in_groups.Given as goal

abbrev pub invariant-loop-i : goal.invariant-loop-i
invariant-loop-i l = Looking l.gids l.group l.i
