-- `types::past_blocks` meets its contract.
use Rattle.types.proofs.Entries.{opened}
use Rattle.types.proofs.past_blocks.Goals as goal

pub loop-j-init : goal.loop-j-init
loop-j-init c = search opened

pub returns-then-s-j-lt8 : goal.returns-then-s-j-lt8
returns-then-s-j-lt8 c = search opened

pub is_open_block-requires : goal.is_open_block-requires
is_open_block-requires c = search opened

pub returns-then-not-is_open_block : goal.returns-then-not-is_open_block
returns-then-not-is_open_block c = search opened

pub loop-j-preserved : goal.loop-j-preserved
loop-j-preserved c = search opened

pub returns : goal.returns
returns c = search opened
