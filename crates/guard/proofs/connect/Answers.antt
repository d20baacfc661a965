use Rattle.std.proofs.Common.{rules}
use Rattle.rules.specs.Calls.{no_connect}
use Rattle.memory.specs.Calls.{connect_on}
use Rattle.guard.proofs.Tested.{image_refused, calls}
use Rattle.guard.proofs.connect.Goals as goal

pub connect-requires : goal.connect-requires
connect-requires c = search calls

pub returns-in-Ok : goal.returns-in-Ok
unfolding connect_on
returns-in-Ok c = search calls

pub returns-in-Err : goal.returns-in-Err
unfolding connect_on
returns-in-Err c = search (image_refused no_connect, rules)
