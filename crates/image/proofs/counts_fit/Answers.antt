-- `image::counts_fit` meets its contract.
use Rattle.image.proofs.Ways.{counts}
use Rattle.image.proofs.counts_fit.Goals as goal

pub returns : goal.returns
returns c = search counts
