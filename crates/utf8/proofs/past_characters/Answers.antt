-- `utf8::past_characters` meets its contract.
use Rattle.std.proofs.Common.{arith}
use Rattle.utf8.proofs.Characters.{passing}
use Rattle.utf8.proofs.past_characters.Goals as goal

pub loop-i-init : goal.loop-i-init
loop-i-init c = search passing

pub returns-in_default : goal.returns-in_default
returns-in_default c = search passing

pub returns-then-not-is_tail : goal.returns-then-not-is_tail
returns-then-not-is_tail c = search passing

pub overflow_add-i-then-not-is_ascii : goal.overflow_add-i-then-not-is_ascii
overflow_add-i-then-not-is_ascii c = omega (arith, c.is_tail.ensures.inside c.if-not-is_tail.false)

pub loop-i-preserved-then-not-is_ascii : goal.loop-i-preserved-then-not-is_ascii
loop-i-preserved-then-not-is_ascii c = search passing

pub loop-i-preserved : goal.loop-i-preserved
loop-i-preserved c = search passing

pub returns : goal.returns
returns c = search passing
