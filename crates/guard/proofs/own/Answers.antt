use Rattle.std.proofs.Common.{rules}
use Rattle.rules.specs.Calls.{no_own}
use Rattle.memory.specs.Calls.{own_on}
use Rattle.guard.proofs.Tested.{image_refused, calls}
use Rattle.guard.proofs.own.Goals as goal

pub own-requires : goal.own-requires
own-requires c = search calls

pub returns-in-Ok : goal.returns-in-Ok
unfolding own_on
returns-in-Ok c = search calls

pub returns-in-Err : goal.returns-in-Err
unfolding own_on
returns-in-Err c = search (image_refused no_own, rules)
