use Rattle.std.proofs.Common.{rules}
use Rattle.rules.specs.Calls.{no_tick}
use Rattle.memory.specs.Calls.{tick_on}
use Rattle.guard.proofs.Tested.{memory_refused, calls}
use Rattle.guard.proofs.tick.Goals as goal

pub tick-requires : goal.tick-requires
tick-requires c = search calls

pub returns-in-Ok : goal.returns-in-Ok
unfolding tick_on
returns-in-Ok c = search calls

pub returns-in-Err : goal.returns-in-Err
unfolding tick_on
returns-in-Err c = search (memory_refused no_tick, rules)
