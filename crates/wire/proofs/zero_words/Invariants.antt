-- `wire::zero_words` meets its contract.
use Rattle.std.proofs.Common.{◌-◌}
use Rattle.wire.proofs.Blocks.{Zeros}
use Rattle.wire.proofs.zero_words.Given as goal

abbrev pub invariant-loop-i : goal.invariant-loop-i
invariant-loop-i l = Zeros l.s l.from l.to l.i

abbrev pub decreases-loop-i : goal.decreases-loop-i
decreases-loop-i l = l.to - l.i
