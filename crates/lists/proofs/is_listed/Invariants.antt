-- The names that are left decide.
use Rattle.std.proofs.Common.{length}
use Rattle.lists.proofs.Lists.{Seeking}
use Rattle.lists.proofs.is_listed.Given as goal

abbrev pub invariant-loop-other : goal.invariant-loop-other
invariant-loop-other l = Seeking l.list l.name l.left

abbrev pub decreases-loop-other : goal.decreases-loop-other
decreases-loop-other l = length l.left
