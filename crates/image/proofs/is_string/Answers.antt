-- `image::is_string` meets its contract.
use Rattle.image.proofs.Ways.{outside, inside}
use Rattle.image.proofs.is_string.Goals as goal

pub returns-then-image-to : goal.returns-then-image-to
returns-then-image-to c = search outside

pub returns : goal.returns
returns c = search inside
