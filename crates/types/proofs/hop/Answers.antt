-- `types::hop` meets its contract.
use Rattle.types.proofs.Entries.{reading}
use Rattle.types.proofs.hop.Goals as goal

pub returns : goal.returns
returns c = search reading
