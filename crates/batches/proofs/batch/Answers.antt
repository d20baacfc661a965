-- `batches::batch` meets its contract.
use Rattle.batches.proofs.Going.{going_stops, going_on, going}
use Rattle.batches.proofs.batch.Goals as goal

pub loop-written-init : goal.loop-written-init
loop-written-init c = search going

pub step-t-requires : goal.step-t-requires
step-t-requires c = search going

pub returns-then-not-is_on : goal.returns-then-not-is_on
returns-then-not-is_on c = search (going_stops c.loop-written.invariant)

pub loop-written-preserved : goal.loop-written-preserved
loop-written-preserved c = search (going_on c.loop-written.invariant)

pub returns : goal.returns
returns c = search going
