use Rattle.calls.proofs.Going.{going_place, going_ends, going}
use Rattle.calls.proofs.replay.Goals as goal

pub loop-entry-init : goal.loop-entry-init
loop-entry-init c = search going

pub step-requires : goal.step-requires
step-requires c = (c.in-Some.ensures.entry, going_place c.loop-entry.invariant c.in-Some.ensures.entry)

pub loop-entry-preserved : goal.loop-entry-preserved
loop-entry-preserved c = search going

pub returns : goal.returns
returns c = going_ends c.loop-entry.invariant c.in_default.ensures.broken
