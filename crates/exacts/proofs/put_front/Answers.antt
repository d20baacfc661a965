use Rattle.exacts.proofs.Writing.{fronting}
use Rattle.exacts.proofs.put_front.Goals as goal

pub returns : goal.returns
returns c = search fronting
