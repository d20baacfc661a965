-- `utf8::is_ascii_block` meets its contract.
use Rattle.utf8.proofs.Blocks.{seeing}
use Rattle.utf8.proofs.is_ascii_block.Goals as goal

pub loop-i-init : goal.loop-i-init
loop-i-init c = search seeing

pub loop-i-preserved : goal.loop-i-preserved
loop-i-preserved c = search seeing
