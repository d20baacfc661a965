-- `addresses::resolve` meets its contract.
use Rattle.addresses.proofs.Addresses.{resolving}
use Rattle.addresses.proofs.resolve.Goals as goal

pub returns-then-from-eq0 : goal.returns-then-from-eq0
returns-then-from-eq0 c = search resolving

pub returns-then-is_bus : goal.returns-then-is_bus
returns-then-is_bus c = search resolving

pub returns-in-Some : goal.returns-in-Some
returns-in-Some c = search (resolving, c.in-Some.ensures)

pub returns-in-None : goal.returns-in-None
returns-in-None c = search (resolving, c.in-None.ensures)
