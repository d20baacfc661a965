-- `judge::ask_peer` meets its contract.
use Rattle.judge.proofs.Policy.{asking_peer}
use Rattle.judge.proofs.ask_peer.Goals as goal

pub returns : goal.returns
returns c = search asking_peer
