-- `types::openings` meets its contract.
use Rattle.types.proofs.Entries.{opened}
use Rattle.types.proofs.openings.Goals as goal

pub past_blocks-j-requires : goal.past_blocks-j-requires
past_blocks-j-requires c = search opened

pub loop-j-init : goal.loop-j-init
loop-j-init c = search opened

pub returns-then-sig-j-ne40 : goal.returns-then-sig-j-ne40
returns-then-sig-j-ne40 c = search opened

pub loop-j-preserved : goal.loop-j-preserved
loop-j-preserved c = search opened

pub returns : goal.returns
returns c = search opened
