-- `peers::admit` meets its contract.
use Rattle.peers.proofs.Entering.{admitting}
use Rattle.peers.proofs.admit.Goals as goal

pub returns : goal.returns
returns c = search admitting
