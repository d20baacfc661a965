-- `image::is_subject` meets its contract.
use Rattle.image.proofs.Ways.{subject}
use Rattle.image.proofs.is_subject.Goals as goal

pub returns : goal.returns
returns c = search subject
