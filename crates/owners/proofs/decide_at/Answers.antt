-- `owners::decide_at` meets its contract.
use Rattle.owners.proofs.Owning.{asking}
use Rattle.owners.proofs.decide_at.Goals as goal

pub returns : goal.returns
returns c = search asking
