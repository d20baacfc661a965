use Rattle.guard.proofs.Tested.{starting}
use Rattle.guard.proofs.start.Goals as goal

pub returns-then-memory-ne-MEMORY_LENGTH : goal.returns-then-memory-ne-MEMORY_LENGTH
returns-then-memory-ne-MEMORY_LENGTH c = search starting

pub returns : goal.returns
returns c = search starting
