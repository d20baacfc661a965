-- `image::has_strings` meets its contract.
use Rattle.image.proofs.Ways.{strings_are}
use Rattle.image.proofs.has_strings.Goals as goal

pub returns : goal.returns
returns c = search strings_are
