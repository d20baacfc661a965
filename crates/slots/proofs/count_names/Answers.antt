-- `slots::count_names` meets its contract.
use Rattle.slots.proofs.Cells.{counting}
use Rattle.slots.proofs.count_names.Goals as goal

pub returns : goal.returns
returns c = search counting
