use Rattle.calls.proofs.Going.{running}
use Rattle.calls.proofs.run.Goals as goal

pub returns-in_default : goal.returns-in_default
returns-in_default c = search running

pub returns-then-answers-calls : goal.returns-then-answers-calls
returns-then-answers-calls c = search running

pub returns-then-start-ne0 : goal.returns-then-start-ne0
returns-then-start-ne0 c = search running

pub replay-requires : goal.replay-requires
replay-requires c = search running

pub returns : goal.returns
returns c = search running
