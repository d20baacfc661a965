-- `peers::enter` meets its contract.
use Rattle.peers.proofs.Entering.{entering}
use Rattle.peers.proofs.enter.Goals as goal

pub returns-in_default : goal.returns-in_default
returns-in_default c = search entering

pub returns-then-last : goal.returns-then-last
returns-then-last c = search entering

pub admit-requires : goal.admit-requires
admit-requires c = search (entering, c.in-Some.ensures)

pub returns : goal.returns
returns c = search (entering, c.in-Some.ensures)
