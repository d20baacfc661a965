-- `reader::values::are_good` meets its contract.
use Rattle.reader.proofs.Checks.{checking}
use Rattle.reader.proofs.values.are_good.Goals as goal

pub loop-code-init : goal.loop-code-init
loop-code-init c = search checking

pub overflow_sub-code : goal.overflow_sub-code
overflow_sub-code c = search checking

pub offset_bounds-places-code : goal.offset_bounds-places-code
offset_bounds-places-code c = search checking

pub bounds-places-code : goal.bounds-places-code
bounds-places-code c = search checking

pub is_good-requires : goal.is_good-requires
is_good-requires c = search checking

pub returns-then-not-is_good : goal.returns-then-not-is_good
returns-then-not-is_good c = search checking

pub loop-code-smaller : goal.loop-code-smaller
loop-code-smaller c = search checking

pub loop-code-preserved : goal.loop-code-preserved
loop-code-preserved c = search checking

pub returns : goal.returns
returns c = search checking
