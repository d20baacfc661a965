use Rattle.exacts.proofs.Adding.{Adding}
use Rattle.exacts.proofs.put_names.Given as goal

abbrev pub invariant-loop-start : goal.invariant-loop-start
invariant-loop-start l = Adding l.initial.room l.at-2 l.list l.starts l.room l.at l.start-index
