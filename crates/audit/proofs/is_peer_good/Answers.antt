-- `audit::is_peer_good` meets its contract.
use Rattle.audit.proofs.Slots.{peers}
use Rattle.audit.proofs.is_peer_good.Goals as goal

pub returns-then-last-number : goal.returns-then-last-number
returns-then-last-number c = search peers

pub returns : goal.returns
returns c = search peers

pub returns-then-is_some : goal.returns-then-is_some
returns-then-is_some c = search peers
