-- `wire::zero_blocks` meets its contract.
use Rattle.wire.proofs.Blocks.{zeros}
use Rattle.wire.proofs.zero_blocks.Goals as goal

pub loop-i-init : goal.loop-i-init
loop-i-init c = search zeros

pub returns-then-not-zero_run : goal.returns-then-not-zero_run
returns-then-not-zero_run c = search zeros

pub loop-i-preserved : goal.loop-i-preserved
loop-i-preserved c = search zeros

pub returns : goal.returns
returns c = search zeros
