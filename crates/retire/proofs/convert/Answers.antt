-- `retire::convert` meets its contract.
use Rattle.retire.proofs.Deciding.{converting}
use Rattle.retire.proofs.convert.Goals as goal

pub slice_bounds-gather-end : goal.slice_bounds-gather-end
slice_bounds-gather-end c = search converting

pub gather-g-requires : goal.gather-g-requires
gather-g-requires c = search converting

pub refused-requires : goal.refused-requires
refused-requires c = search converting

pub returns-then-g-gt-MOST : goal.returns-then-g-gt-MOST
returns-then-g-gt-MOST c = search converting

pub word-requires : goal.word-requires
word-requires c = search converting

pub overflow_mul-size : goal.overflow_mul-size
overflow_mul-size c = search converting

pub overflow_sub-size : goal.overflow_sub-size
overflow_sub-size c = search converting

pub overflow_mul-size-2 : goal.overflow_mul-size-2
overflow_mul-size-2 c = search converting

pub overflow_add-size : goal.overflow_add-size
overflow_add-size c = search converting

pub overflow_add-size-2 : goal.overflow_add-size-2
overflow_add-size-2 c = search converting

pub refused-requires-then-size-gt65536 : goal.refused-requires-then-size-gt65536
refused-requires-then-size-gt65536 c = search converting

pub returns-then-size-gt65536 : goal.returns-then-size-gt65536
returns-then-size-gt65536 c = search converting

pub refused-requires-then-room-size : goal.refused-requires-then-room-size
refused-requires-then-room-size c = search converting

pub returns-then-room-size : goal.returns-then-room-size
returns-then-room-size c = search converting

pub slice_bounds-write-count : goal.slice_bounds-write-count
slice_bounds-write-count c = search converting

pub slice_bounds-write-start : goal.slice_bounds-write-start
slice_bounds-write-start c = search converting

pub slice_bounds-write-end : goal.slice_bounds-write-end
slice_bounds-write-end c = search converting

pub write-requires : goal.write-requires
write-requires c = search converting

pub shape_of-room : goal.shape_of-room
shape_of-room c = search converting

pub returns : goal.returns
returns c = search converting
