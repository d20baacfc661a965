-- `types::align_of` meets its contract.
use Rattle.types.proofs.Letters.{aligned}
use Rattle.types.proofs.align_of.Goals as goal

pub returns-then-b : goal.returns-then-b
returns-then-b c = search aligned

pub returns-then-b-2 : goal.returns-then-b-2
returns-then-b-2 c = search aligned

pub returns-then-b-3 : goal.returns-then-b-3
returns-then-b-3 c = search aligned

pub returns : goal.returns
returns c = search aligned
