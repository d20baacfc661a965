-- `owners::put_name` meets its contract.
use Rattle.owners.proofs.Owning.{naming}
use Rattle.owners.proofs.put_name.Goals as goal

pub shape_of-memory : goal.shape_of-memory
shape_of-memory c = search naming

pub returns : goal.returns
returns c = search naming
