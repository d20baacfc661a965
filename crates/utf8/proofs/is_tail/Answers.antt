-- `utf8::is_tail` meets its contract.
use Rattle.utf8.proofs.Characters.{trailing}
use Rattle.utf8.proofs.is_tail.Goals as goal

pub returns-then-s-at : goal.returns-then-s-at
returns-then-s-at c = search trailing

pub loop-i-init : goal.loop-i-init
loop-i-init c = search trailing

pub loop-i-preserved : goal.loop-i-preserved
loop-i-preserved c = search trailing

pub returns : goal.returns
returns c = search trailing
