-- `tables::put_words` meets its contract.
use Rattle.tables.proofs.Row.{Putting}
use Rattle.tables.proofs.put_words.Given as goal

abbrev pub invariant-loop-k : goal.invariant-loop-k
invariant-loop-k l = Putting l.initial.s l.words l.s l.at l.k
