-- `rules::is_ownable` meets its contract.
use Rattle.rules.proofs.Ownable.{ownables}
use Rattle.rules.proofs.is_ownable.Goals as goal

pub is_valid-requires : goal.is_valid-requires
is_valid-requires c = search ownables

pub is_bus-requires : goal.is_bus-requires
is_bus-requires c = search ownables

pub returns : goal.returns
returns c = search ownables
