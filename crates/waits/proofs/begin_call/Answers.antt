-- `waits::begin_call` meets its contract.
use Rattle.waits.proofs.Calls.{beginning}
use Rattle.waits.proofs.begin_call.Goals as goal

pub tick_of-tick-requires : goal.tick_of-tick-requires
tick_of-tick-requires c = search beginning

pub overflow_mul-at : goal.overflow_mul-at
overflow_mul-at c = search beginning

pub overflow_add-at : goal.overflow_add-at
overflow_add-at c = search beginning

pub overflow_add-at-2 : goal.overflow_add-at-2
overflow_add-at-2 c = search beginning

pub overflow_mul-at-2 : goal.overflow_mul-at-2
overflow_mul-at-2 c = search beginning

pub overflow_add-at-3 : goal.overflow_add-at-3
overflow_add-at-3 c = search beginning

pub put_call-requires : goal.put_call-requires
put_call-requires c = search beginning

pub overflow_mul-i : goal.overflow_mul-i
overflow_mul-i c = search beginning

pub overflow_add-i : goal.overflow_add-i
overflow_add-i c = search beginning

pub overflow_add-i-2 : goal.overflow_add-i-2
overflow_add-i-2 c = search beginning

pub overflow_add-n : goal.overflow_add-n
overflow_add-n c = search beginning

pub overflow_cast-n : goal.overflow_cast-n
overflow_cast-n c = search beginning

pub put_u32-requires : goal.put_u32-requires
put_u32-requires c = search beginning

pub shape_of-memory : goal.shape_of-memory
shape_of-memory c = search beginning

pub returns : goal.returns
returns c = search beginning
