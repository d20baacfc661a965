-- `peers::connect` meets its contract.
use Rattle.peers.proofs.Entering.{connecting}
use Rattle.peers.proofs.connect.Goals as goal

pub returns-then-gids-gt16 : goal.returns-then-gids-gt16
returns-then-gids-gt16 c = search connecting

pub returns-then-not-decision : goal.returns-then-not-decision
returns-then-not-decision c = search connecting

pub returns : goal.returns
returns c = search connecting
