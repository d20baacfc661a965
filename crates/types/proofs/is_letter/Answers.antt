-- `types::is_letter` meets its contract.
use Rattle.types.proofs.Letters.{letter_is}
use Rattle.types.proofs.is_letter.Goals as goal

pub returns : goal.returns
returns c = search letter_is
