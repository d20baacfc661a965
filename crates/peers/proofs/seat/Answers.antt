-- `peers::seat` meets its contract.
use Rattle.peers.proofs.Newcomers.{seating}
use Rattle.peers.proofs.seat.Goals as goal

pub returns : goal.returns
returns c = search seating
