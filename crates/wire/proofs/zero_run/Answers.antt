-- `wire::zero_run` meets its contract.
use Rattle.wire.proofs.Blocks.{runs}
use Rattle.wire.proofs.zero_run.Goals as goal

pub loop-i-init : goal.loop-i-init
loop-i-init c = search runs

pub loop-i-preserved : goal.loop-i-preserved
loop-i-preserved c = search runs
