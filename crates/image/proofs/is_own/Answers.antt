-- `image::is_own` meets its contract.
use Rattle.image.proofs.Ways.{own_is}
use Rattle.image.proofs.is_own.Goals as goal

pub returns : goal.returns
returns c = search own_is
