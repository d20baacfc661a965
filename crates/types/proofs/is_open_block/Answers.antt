-- `types::is_open_block` meets its contract.
use Rattle.types.proofs.Entries.{opened}
use Rattle.types.proofs.is_open_block.Goals as goal

pub loop-k-init : goal.loop-k-init
loop-k-init c = search opened

pub loop-k-preserved : goal.loop-k-preserved
loop-k-preserved c = search opened

pub returns : goal.returns
returns c = search opened
