-- `reader::values::are_good` meets its contract.
use Rattle.reader.proofs.Checks.{Checking}
use Rattle.reader.proofs.values.are_good.Given as goal

abbrev pub invariant-loop-code : goal.invariant-loop-code
invariant-loop-code l = Checking l.order l.head l.places l.code

abbrev pub decreases-loop-code : goal.decreases-loop-code
decreases-loop-code l = l.code
