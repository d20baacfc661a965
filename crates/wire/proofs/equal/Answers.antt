-- `wire::equal` meets its contract.
use Rattle.wire.proofs.Loads.{words}
use Rattle.wire.proofs.equal.Goals as goal

pub returns-then-a-b : goal.returns-then-a-b
returns-then-a-b c = search words
