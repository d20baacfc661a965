-- `image::text` meets its contract.
use Rattle.image.proofs.Ways.{cited}
use Rattle.image.proofs.text.Goals as goal

pub returns : goal.returns
returns c = search cited
