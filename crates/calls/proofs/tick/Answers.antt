use Rattle.calls.proofs.Called.{ticking}
use Rattle.calls.proofs.tick.Goals as goal

pub returns : goal.returns
returns c = search ticking
