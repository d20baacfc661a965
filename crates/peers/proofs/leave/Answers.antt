-- `peers::leave` meets its contract.
use Rattle.peers.proofs.Leaving.{leaving}
use Rattle.peers.proofs.leave.Goals as goal

pub end_all-requires : goal.end_all-requires
end_all-requires c = search leaving

pub returns : goal.returns
returns c = search leaving
