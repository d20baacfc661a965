-- `audit::is_shaped` meets its contract.
use Rattle.audit.proofs.Slots.{shapes}
use Rattle.audit.proofs.is_shaped.Goals as goal

pub returns : goal.returns
returns c = search shapes
