-- `types::ends_of` meets its contract.
use Rattle.types.proofs.Filling.{Filling}
use Rattle.types.proofs.ends_of.Given as goal

abbrev pub invariant-loop-i : goal.invariant-loop-i
invariant-loop-i l = Filling l.s l.ends l.arrays l.parens l.i
