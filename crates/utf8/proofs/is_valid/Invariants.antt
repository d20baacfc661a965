-- `utf8::is_valid` meets its contract.
use Rattle.std.proofs.Common.{◌-◌, length}
use Rattle.utf8.proofs.Blocks.{Left}
use Rattle.utf8.proofs.is_valid.Given as goal

abbrev pub invariant-loop-i : goal.invariant-loop-i
invariant-loop-i l = Left l.s l.i

abbrev pub decreases-loop-i : goal.decreases-loop-i
decreases-loop-i l = length l.s - l.i
