use Rattle.calls.proofs.Words.{gathering}
use Rattle.calls.proofs.Gids.behind_uid.Goals as goal

pub loop-k-init : goal.loop-k-init
loop-k-init c = search gathering

pub loop-k-preserved : goal.loop-k-preserved
loop-k-preserved c = search gathering
