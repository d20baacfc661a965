use Rattle.std.proofs.Common.{rules}
use Rattle.memory.specs.Calls.{release_on}
use Rattle.guard.proofs.Tested.{memory_refused, calls}
use Rattle.guard.proofs.release.Goals as goal

pub release-requires : goal.release-requires
release-requires c = search calls

pub returns-in-Ok : goal.returns-in-Ok
unfolding release_on
returns-in-Ok c = search calls

pub returns-in-Err : goal.returns-in-Err
unfolding release_on
returns-in-Err c = search (memory_refused (λ a. a), rules)
