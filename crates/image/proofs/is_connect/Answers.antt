-- `image::is_connect` meets its contract.
use Rattle.image.proofs.Ways.{connect_is}
use Rattle.image.proofs.is_connect.Goals as goal

pub returns : goal.returns
returns c = search connect_is
