-- `waits::put_call` meets its contract.
use Rattle.waits.proofs.Calls.{writing}
use Rattle.waits.proofs.put_call.Goals as goal

pub put_u32-requires : goal.put_u32-requires
put_u32-requires c = search writing

pub overflow_add-at : goal.overflow_add-at
overflow_add-at c = search writing

pub put_u32-requires-2 : goal.put_u32-requires-2
put_u32-requires-2 c = search writing

pub overflow_add-at-2 : goal.overflow_add-at-2
overflow_add-at-2 c = search writing

pub put_u64-requires : goal.put_u64-requires
put_u64-requires c = search writing

pub shape_of-memory : goal.shape_of-memory
shape_of-memory c = search writing

pub returns : goal.returns
returns c = search writing
