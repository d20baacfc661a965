-- `reader::header_of` meets its contract.
use Rattle.reader.proofs.Whole.{a_header, judging}
use Rattle.reader.proofs.header_of.Goals as goal

pub u32_at-serial-requires : goal.u32_at-serial-requires
u32_at-serial-requires c = search judging

pub u32_at-body-requires : goal.u32_at-body-requires
u32_at-body-requires c = search judging

pub bounds-places-5 : goal.bounds-places-5
bounds-places-5 c = search judging

pub overflow_add-end : goal.overflow_add-end
overflow_add-end c = search judging

pub slice_bounds-number_in-count : goal.slice_bounds-number_in-count
slice_bounds-number_in-count c = search judging

pub slice_bounds-number_in-start : goal.slice_bounds-number_in-start
slice_bounds-number_in-start c = search judging

pub slice_bounds-number_in-end : goal.slice_bounds-number_in-end
slice_bounds-number_in-end c = search judging

pub number_in-reply_serial-requires : goal.number_in-reply_serial-requires
number_in-reply_serial-requires c = search judging

pub bounds-places-1 : goal.bounds-places-1
bounds-places-1 c = search judging

pub bounds-places-2 : goal.bounds-places-2
bounds-places-2 c = search judging

pub bounds-places-3 : goal.bounds-places-3
bounds-places-3 c = search judging

pub bounds-places-4 : goal.bounds-places-4
bounds-places-4 c = search judging

pub bounds-places-6 : goal.bounds-places-6
bounds-places-6 c = search judging

pub bounds-head-1 : goal.bounds-head-1
bounds-head-1 c = search judging

pub bounds-head-2 : goal.bounds-head-2
bounds-head-2 c = search judging

pub returns : goal.returns
returns c = search a_header
