-- `owners::claim` meets its contract.
use Rattle.owners.proofs.Owning.{claiming}
use Rattle.owners.proofs.claim.Goals as goal

pub returns-then-is_none : goal.returns-then-is_none
returns-then-is_none c = search claiming

pub returns : goal.returns
returns c = search claiming
