-- `names::scan::walk_blocks` meets its contract.
use Rattle.std.proofs.Common.{◌-◌, length}
use Rattle.names.proofs.Walk.{Strides}
use Rattle.names.proofs.scan.walk_blocks.Given as goal

abbrev pub invariant-loop-i : goal.invariant-loop-i
invariant-loop-i l = Strides l.high l.s l.width l.i l.seen

abbrev pub decreases-loop-i : goal.decreases-loop-i
decreases-loop-i l = length l.s - l.i
