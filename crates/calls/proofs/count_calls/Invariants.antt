use Rattle.std.proofs.Common.{length}
use Rattle.calls.proofs.Entries.{Counting}
use Rattle.calls.proofs.count_calls.Given as goal

abbrev pub invariant-loop-entry : goal.invariant-loop-entry
invariant-loop-entry l = Counting l.script l.rest l.n

abbrev pub decreases-loop-entry : goal.decreases-loop-entry
decreases-loop-entry l = length l.rest
