-- `retire::gather` meets its contract. The loop's invariant: the names before `at` are told, and those from `at` on are to come.
use Rattle.retire.proofs.Gathering.{gathering}
use Rattle.retire.proofs.gather.Goals as goal

pub kept-rules-requires : goal.kept-rules-requires
kept-rules-requires c = search gathering

pub loop-at-init : goal.loop-at-init
loop-at-init c = search gathering

pub overflow_add-at : goal.overflow_add-at
overflow_add-at c = search gathering

pub bounds-list-start : goal.bounds-list-start
bounds-list-start c = search gathering

pub overflow_cast-at : goal.overflow_cast-at
overflow_cast-at c = search gathering

pub overflow_add-at-in-loop-at : goal.overflow_add-at-in-loop-at
overflow_add-at-in-loop-at c = search gathering

pub overflow_add-start : goal.overflow_add-start
overflow_add-start c = search gathering

pub slice_bounds-covering-count : goal.slice_bounds-covering-count
slice_bounds-covering-count c = search gathering

pub slice_bounds-covering-start : goal.slice_bounds-covering-start
slice_bounds-covering-start c = search gathering

pub slice_bounds-covering-end : goal.slice_bounds-covering-end
slice_bounds-covering-end c = search gathering

pub covering-more-requires : goal.covering-more-requires
covering-more-requires c = search gathering

pub overflow_add-rules : goal.overflow_add-rules
overflow_add-rules c = search gathering

pub shape_of-starts-then-rules-gt-MOST : goal.shape_of-starts-then-rules-gt-MOST
shape_of-starts-then-rules-gt-MOST c = search gathering

pub returns-then-rules-gt-MOST : goal.returns-then-rules-gt-MOST
returns-then-rules-gt-MOST c = search gathering

pub offset_bounds-starts-names : goal.offset_bounds-starts-names
offset_bounds-starts-names c = search gathering

pub bounds-starts-names : goal.bounds-starts-names
bounds-starts-names c = search gathering

pub overflow_add-names : goal.overflow_add-names
overflow_add-names c = search gathering

pub overflow_sub-bytes : goal.overflow_sub-bytes
overflow_sub-bytes c = search gathering

pub overflow_sub-bytes-then-more-gt0 : goal.overflow_sub-bytes-then-more-gt0
overflow_sub-bytes-then-more-gt0 c = search gathering

pub overflow_add-bytes : goal.overflow_add-bytes
overflow_add-bytes c = search gathering

pub loop-at-smaller-then-more-gt0 : goal.loop-at-smaller-then-more-gt0
loop-at-smaller-then-more-gt0 c = search gathering

pub loop-at-preserved-then-more-gt0 : goal.loop-at-preserved-then-more-gt0
loop-at-preserved-then-more-gt0 c = search gathering

pub loop-at-smaller : goal.loop-at-smaller
loop-at-smaller c = search gathering

pub loop-at-preserved : goal.loop-at-preserved
loop-at-preserved c = search gathering

pub shape_of-starts : goal.shape_of-starts
shape_of-starts c = search gathering

pub returns : goal.returns
returns c = search gathering
