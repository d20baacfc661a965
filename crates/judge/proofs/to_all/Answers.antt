-- `judge::to_all` meets its contract.
use Rattle.judge.proofs.Everybody.{masking}
use Rattle.judge.proofs.to_all.Goals as goal

pub loop-k-init : goal.loop-k-init
loop-k-init c = search masking

pub reaches-requires : goal.reaches-requires
reaches-requires c = search masking

pub below-mask-requires : goal.below-mask-requires
below-mask-requires c = search masking

pub loop-k-preserved : goal.loop-k-preserved
loop-k-preserved c = search masking

pub returns : goal.returns
returns c = search masking
