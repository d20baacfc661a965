-- `slots::gids_at` meets its contract.
use Rattle.slots.proofs.Groups.{gathering}
use Rattle.slots.proofs.gids_at.Goals as goal

pub loop-k-init : goal.loop-k-init
loop-k-init c = search gathering

pub loop-k-preserved : goal.loop-k-preserved
loop-k-preserved c = search gathering
