-- `image::is_without_prefixes` meets its contract. The loop's invariant: of the own rules, those below `i` are left to be looked at, and one of them at least.
use Rattle.image.proofs.Prefixes.{Looking}
use Rattle.image.proofs.is_without_prefixes.Given as goal

abbrev pub invariant-loop-i : goal.invariant-loop-i
invariant-loop-i l = Looking l.image l.i

abbrev pub decreases-loop-i : goal.decreases-loop-i
decreases-loop-i l = l.i
