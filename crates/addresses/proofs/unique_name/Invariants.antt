-- `addresses::unique_name` meets its contract.
use Rattle.addresses.proofs.Unique.{Spelling}
use Rattle.addresses.proofs.unique_name.Given as goal

abbrev pub invariant-loop-k : goal.invariant-loop-k
invariant-loop-k l = Spelling l.number l.bytes l.k l.n

abbrev pub decreases-loop-k : goal.decreases-loop-k
decreases-loop-k l = l.k
