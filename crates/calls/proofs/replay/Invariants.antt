use Rattle.std.proofs.Common.{length}
use Rattle.calls.proofs.Going.{Going}
use Rattle.calls.proofs.replay.Given as goal

abbrev pub invariant-loop-entry : goal.invariant-loop-entry
invariant-loop-entry l = Going l.image l.script l.initial.memory l.initial.answers l.memory l.answers l.rest l.at

abbrev pub decreases-loop-entry : goal.decreases-loop-entry
decreases-loop-entry l = length l.rest
