use Rattle.guard.proofs.Tested.{batching}
use Rattle.guard.proofs.batch.Goals as goal

pub returns-then-room-lt-PLACE_LENGTH : goal.returns-then-room-lt-PLACE_LENGTH
returns-then-room-lt-PLACE_LENGTH c = search batching

pub batch-requires : goal.batch-requires
batch-requires c = search batching

pub returns-in-Ok : goal.returns-in-Ok
returns-in-Ok c = search batching

pub returns-in-Err : goal.returns-in-Err
returns-in-Err c = search batching
