use Rattle.exacts.proofs.Owns.{owning}
use Rattle.exacts.proofs.put_owns.Goals as goal

pub loop-i-init : goal.loop-i-init
loop-i-init c = search owning

pub loop-i-preserved : goal.loop-i-preserved
loop-i-preserved c = search owning

pub put_rule-at-requires : goal.put_rule-at-requires
put_rule-at-requires c = search owning
