-- `owners::obtain` meets its contract.
use Rattle.owners.proofs.Owning.{obtaining}
use Rattle.owners.proofs.obtain.Goals as goal

pub owns_name-requires : goal.owns_name-requires
owns_name-requires c = search obtaining

pub shape_of-memory-then-owns_name : goal.shape_of-memory-then-owns_name
shape_of-memory-then-owns_name c = search obtaining

pub returns-then-owns_name : goal.returns-then-owns_name
returns-then-owns_name c = search obtaining

pub claim-requires : goal.claim-requires
claim-requires c = search obtaining

pub shape_of-memory : goal.shape_of-memory
shape_of-memory c = search obtaining

pub returns : goal.returns
returns c = search obtaining
