-- `types::ends_of` meets its contract.
use Rattle.types.proofs.Filling.{filling}
use Rattle.types.proofs.ends_of.Goals as goal

pub loop-i-init : goal.loop-i-init
loop-i-init c = search filling

pub nest_at-nest-requires : goal.nest_at-nest-requires
nest_at-nest-requires c = search filling

pub loop-i-preserved : goal.loop-i-preserved
loop-i-preserved c = search filling

pub returns : goal.returns
returns c = search filling
