use Rattle.exacts.proofs.Exacts.{Making}
use Rattle.exacts.proofs.put_exacts.Given as goal

abbrev pub invariant-loop-start : goal.invariant-loop-start
invariant-loop-start l = Making l.initial.room l.at-2 l.rule l.prefix l.offset-2 l.list l.starts l.room l.at l.offset l.start-index
