use Rattle.calls.proofs.Called.{connecting}
use Rattle.calls.proofs.connect.Goals as goal

pub returns : goal.returns
returns c = search connecting
