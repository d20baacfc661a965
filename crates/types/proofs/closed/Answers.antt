-- `types::closed` meets its contract.
use Rattle.types.proofs.Entries.{reading}
use Rattle.types.proofs.closed.Goals as goal

pub run_at-requires : goal.run_at-requires
run_at-requires c = search reading

pub returns : goal.returns
returns c = search reading
