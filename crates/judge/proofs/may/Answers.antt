-- `judge::may` meets its contract.
use Rattle.judge.proofs.Policy.{saying}
use Rattle.judge.proofs.may.Goals as goal

pub count_names-names-requires : goal.count_names-names-requires
count_names-names-requires c = search saying

pub overflow_mul-from : goal.overflow_mul-from
overflow_mul-from c = search saying

pub overflow_add-from : goal.overflow_add-from
overflow_add-from c = search saying

pub overflow_add-from-2 : goal.overflow_add-from-2
overflow_add-from-2 c = search saying

pub overflow_mul-to : goal.overflow_mul-to
overflow_mul-to c = search saying

pub overflow_add-to : goal.overflow_add-to
overflow_add-to c = search saying

pub slice_bounds-ask_peer-count : goal.slice_bounds-ask_peer-count
slice_bounds-ask_peer-count c = search saying

pub slice_bounds-ask_peer-start : goal.slice_bounds-ask_peer-start
slice_bounds-ask_peer-start c = search saying

pub slice_bounds-ask_peer-end : goal.slice_bounds-ask_peer-end
slice_bounds-ask_peer-end c = search saying

pub ask_peer-requires : goal.ask_peer-requires
ask_peer-requires c = search saying

pub returns : goal.returns
returns c = search saying
