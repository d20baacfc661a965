use Rattle.batches.proofs.Going.{Going}
use Rattle.batches.proofs.batch.Given as goal

abbrev pub invariant-loop-written : goal.invariant-loop-written
invariant-loop-written l = Going l.image l.peer l.initial.memory l.bytes l.initial.room l.limit l.memory l.room l.rest l.written
