-- The names that are left decide.
use Rattle.std.proofs.Common.{length}
use Rattle.lists.proofs.Lists.{Naming}
use Rattle.lists.proofs.are_names.Given as goal

abbrev pub invariant-loop-name : goal.invariant-loop-name
invariant-loop-name l = Naming l.list l.left

abbrev pub decreases-loop-name : goal.decreases-loop-name
decreases-loop-name l = length l.left
