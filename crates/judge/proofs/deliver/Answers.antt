-- `judge::deliver` meets its contract.
use Rattle.judge.proofs.Peers.{delivering}
use Rattle.judge.proofs.deliver.Goals as goal

pub number_at-receiver-requires : goal.number_at-receiver-requires
number_at-receiver-requires c = search delivering

pub wait-requires : goal.wait-requires
wait-requires c = search delivering

pub shape_of-memory-then-header : goal.shape_of-memory-then-header
shape_of-memory-then-header c = search delivering

pub returns-then-header : goal.returns-then-header
returns-then-header c = search delivering

pub shape_of-memory : goal.shape_of-memory
shape_of-memory c = search delivering

pub returns : goal.returns
returns c = search delivering
