-- `image::sections_follow` meets its contract.
use Rattle.image.proofs.Ways.{sections}
use Rattle.image.proofs.sections_follow.Goals as goal

pub returns : goal.returns
returns c = search sections
