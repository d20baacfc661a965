use Rattle.std.proofs.Common.{rules}
use Rattle.rules.specs.Calls.{no_gone}
use Rattle.memory.specs.Calls.{disconnect_on}
use Rattle.guard.proofs.Tested.{memory_refused, calls}
use Rattle.guard.proofs.disconnect.Goals as goal

pub disconnect-requires : goal.disconnect-requires
disconnect-requires c = search calls

pub returns-in-Ok : goal.returns-in-Ok
unfolding disconnect_on
returns-in-Ok c = search calls

pub returns-in-Err : goal.returns-in-Err
unfolding disconnect_on
returns-in-Err c = search (memory_refused no_gone, rules)
