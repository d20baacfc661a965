-- `batches::step` meets its contract.
use Rattle.batches.proofs.Steps.{stepping}
use Rattle.batches.proofs.step.Goals as goal

pub returns : goal.returns
returns c = search stepping
