use Rattle.lists.proofs.Lists.{parting_next}
use Rattle.lists.proofs.are_distinct.Goals as goal

pub loop-name-preserved : goal.loop-name-preserved
loop-name-preserved c = parting_next c.loop-name.invariant c.in-Some.ensures.first c.is_listed.ensures c.if-is_listed.false
