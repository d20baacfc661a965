-- `batches::refused` meets its contract.
use Rattle.batches.proofs.Steps.{stepping}
use Rattle.batches.proofs.refused.Goals as goal

pub returns : goal.returns
returns c = search stepping
