use Rattle.exacts.proofs.Adding.{adding}
use Rattle.exacts.proofs.put_names.Goals as goal

pub slice_bounds-copy-end : goal.slice_bounds-copy-end
slice_bounds-copy-end c = search adding

pub returns : goal.returns
returns c = search adding

pub loop-start-preserved : goal.loop-start-preserved
loop-start-preserved c = search adding
