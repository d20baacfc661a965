use Rattle.exacts.proofs.Writing.{backing}
use Rattle.exacts.proofs.put_back.Goals as goal

pub returns : goal.returns
returns c = search backing
