-- `matching::cell_holds` meets its contract.
use Rattle.matching.proofs.Fits.{cuts}
use Rattle.matching.proofs.cell_holds.Goals as goal

pub bounds-cells-0 : goal.bounds-cells-0
bounds-cells-0 c = search cuts

pub overflow_add-to : goal.overflow_add-to
overflow_add-to c = search cuts

pub slice_bounds-equal-count : goal.slice_bounds-equal-count
slice_bounds-equal-count c = search cuts

pub slice_bounds-equal-start : goal.slice_bounds-equal-start
slice_bounds-equal-start c = search cuts

pub slice_bounds-equal-end : goal.slice_bounds-equal-end
slice_bounds-equal-end c = search cuts

pub equal-requires : goal.equal-requires
equal-requires c = search cuts

pub returns-clause-holds : goal.returns-clause-holds
returns-clause-holds c = search cuts
