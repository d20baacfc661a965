use Rattle.exacts.proofs.Owns.{Owning}
use Rattle.exacts.proofs.put_owns.Given as goal

abbrev pub invariant-loop-i : goal.invariant-loop-i
invariant-loop-i l = Owning l.initial.room l.at-2 l.image l.list l.starts l.room l.at l.i
