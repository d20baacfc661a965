-- `reader::read` meets its contract.
use Rattle.reader.proofs.Whole.{bytes}
use Rattle.std.proofs.lemmas.Result.{err_from_is_err_and}
use Rattle.reader.proofs.read.Goals as goal

pub returns-then-bytes-lt-FIXED_LENGTH : goal.returns-then-bytes-lt-FIXED_LENGTH
returns-then-bytes-lt-FIXED_LENGTH c = search bytes

pub fixed_part-requires : goal.fixed_part-requires
fixed_part-requires c = search bytes

pub returns-then-bytes-head : goal.returns-then-bytes-head
returns-then-bytes-head c = search bytes

pub slice_bounds-read_head-count : goal.slice_bounds-read_head-count
slice_bounds-read_head-count c = search bytes

pub slice_bounds-read_head-start : goal.slice_bounds-read_head-start
slice_bounds-read_head-start c = search bytes

pub slice_bounds-read_head-end : goal.slice_bounds-read_head-end
slice_bounds-read_head-end c = search bytes

pub read_head-requires : goal.read_head-requires
read_head-requires c = search bytes

pub returns-in_err-head : goal.returns-in_err-head
returns-in_err-head c = let p = err_from_is_err_and c.from_residual.result c.from_residual.ensures.1 in rw (p.1, p.2) (search bytes)

pub returns : goal.returns
returns c = search bytes
