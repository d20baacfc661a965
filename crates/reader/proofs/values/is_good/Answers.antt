-- `reader::values::is_good` meets its contract.
use Rattle.reader.proofs.Checks.{field}
use Rattle.reader.proofs.values.is_good.Goals as goal

pub returns-then-at-eq0 : goal.returns-then-at-eq0
returns-then-at-eq0 c = search field

pub overflow_add-end : goal.overflow_add-end
overflow_add-end c = search field

pub slice_bounds-is_good_value-count : goal.slice_bounds-is_good_value-count
slice_bounds-is_good_value-count c = search field

pub slice_bounds-is_good_value-start : goal.slice_bounds-is_good_value-start
slice_bounds-is_good_value-start c = search field

pub slice_bounds-is_good_value-end : goal.slice_bounds-is_good_value-end
slice_bounds-is_good_value-end c = search field

pub is_good_value-requires : goal.is_good_value-requires
is_good_value-requires c = search field

pub returns : goal.returns
returns c = search field
