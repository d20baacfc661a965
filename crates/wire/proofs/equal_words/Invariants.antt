-- `wire::equal_words` meets its contract.
use Rattle.std.proofs.Common.{◌-◌, length}
use Rattle.wire.proofs.Blocks.{Equals}
use Rattle.wire.proofs.equal_words.Given as goal

abbrev pub invariant-loop-i : goal.invariant-loop-i
invariant-loop-i l = Equals l.a l.b l.i

abbrev pub decreases-loop-i : goal.decreases-loop-i
decreases-loop-i l = length l.a - l.i
