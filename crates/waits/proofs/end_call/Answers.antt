-- `waits::end_call` meets its contract.
use Rattle.waits.proofs.Calls.{ending}
use Rattle.waits.proofs.end_call.Goals as goal

pub overflow_mul-at : goal.overflow_mul-at
overflow_mul-at c = search ending

pub overflow_add-at : goal.overflow_add-at
overflow_add-at c = search ending

pub overflow_add-at-2 : goal.overflow_add-at-2
overflow_add-at-2 c = search ending

pub overflow_add-end : goal.overflow_add-end
overflow_add-end c = search ending

pub slice_bounds-remove-count : goal.slice_bounds-remove-count
slice_bounds-remove-count c = search ending

pub slice_bounds-remove-start : goal.slice_bounds-remove-start
slice_bounds-remove-start c = search ending

pub slice_bounds-remove-end : goal.slice_bounds-remove-end
slice_bounds-remove-end c = search ending

pub overflow_mul-k : goal.overflow_mul-k
overflow_mul-k c = search ending

pub overflow_mul-n : goal.overflow_mul-n
overflow_mul-n c = search ending

pub overflow_sub-n : goal.overflow_sub-n
overflow_sub-n c = search ending

pub overflow_cast-n : goal.overflow_cast-n
overflow_cast-n c = search ending

pub remove-requires : goal.remove-requires
remove-requires c = search ending

pub shape_of-memory : goal.shape_of-memory
shape_of-memory c = search ending

pub returns : goal.returns
returns c = search ending
