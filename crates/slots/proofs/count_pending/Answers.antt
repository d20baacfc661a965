-- `slots::count_pending` meets its contract.
use Rattle.slots.proofs.Cells.{counting}
use Rattle.slots.proofs.count_pending.Goals as goal

pub returns : goal.returns
returns c = search counting
