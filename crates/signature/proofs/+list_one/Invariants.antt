-- The cycle of calls {list, one}. `one` at n bytes has the measure 2n, and `list`, which calls it at the same bytes, 2n + 1. The loop: the types before `end` have
-- been passed, and what is left of the row starts there.
use Rattle.std.proofs.Common.{length, ◌-◌, ◌+◌, ◌*◌}
use Rattle.signature.proofs.Grammar.{Going}
use Rattle.signature.proofs.+list_one.Given as goal

abbrev pub decreases-list : goal.decreases-list
decreases-list l = 2 * (length l.s.now - l.at) + 1

abbrev pub decreases-one : goal.decreases-one
decreases-one l = 2 * (length l.s.now - l.at)

abbrev pub invariant-list-loop-end : goal.invariant-list-loop-end
invariant-list-loop-end l = Going l.s l.at l.arrays l.parens l.end l.types

abbrev pub decreases-list-loop-end : goal.decreases-list-loop-end
decreases-list-loop-end l = length l.s - l.end
