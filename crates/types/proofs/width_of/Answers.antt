-- `types::width_of` meets its contract.
use Rattle.types.proofs.Letters.{widths}
use Rattle.types.proofs.width_of.Goals as goal

pub returns-then-b : goal.returns-then-b
returns-then-b c = search widths

pub returns-then-is_basic : goal.returns-then-is_basic
returns-then-is_basic c = search widths

pub returns : goal.returns
returns c = search widths
