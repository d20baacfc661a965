-- `peers::disconnect` meets its contract.
use Rattle.peers.proofs.Leaving.{disconnecting}
use Rattle.peers.proofs.disconnect.Goals as goal

pub returns-in_default : goal.returns-in_default
returns-in_default c = search disconnecting

pub returns : goal.returns
returns c = search (disconnecting, c.in-Some.ensures)
