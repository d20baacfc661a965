-- `utf8::is_valid` meets its contract.
use Rattle.utf8.proofs.Blocks.{leaving}
use Rattle.utf8.proofs.is_valid.Goals as goal

pub returns-then-n-lt-BLOCK : goal.returns-then-n-lt-BLOCK
returns-then-n-lt-BLOCK c = search leaving

pub loop-i-init : goal.loop-i-init
loop-i-init c = search leaving

pub loop-i-preserved-then-is_ascii_block : goal.loop-i-preserved-then-is_ascii_block
loop-i-preserved-then-is_ascii_block c = search leaving

pub loop-i-preserved : goal.loop-i-preserved
loop-i-preserved c = search leaving

pub returns : goal.returns
returns c = search leaving
