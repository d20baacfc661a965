-- `image::is_owned` meets its contract.
use Rattle.image.proofs.Ways.{any_name, one_name}
use Rattle.image.proofs.is_owned.Goals as goal

pub returns-then-image-at-eq0 : goal.returns-then-image-at-eq0
returns-then-image-at-eq0 c = search any_name

pub returns : goal.returns
returns c = search one_name
