-- `exacts::put_span` meets its contract.
use Rattle.exacts.proofs.Exact.{spanning}
use Rattle.exacts.proofs.put_span.Goals as goal

pub overflow_cast-offset : goal.overflow_cast-offset
overflow_cast-offset c = search spanning

pub put_u32-requires : goal.put_u32-requires
put_u32-requires c = search spanning

pub overflow_add-at : goal.overflow_add-at
overflow_add-at c = search spanning

pub overflow_cast-len : goal.overflow_cast-len
overflow_cast-len c = search spanning

pub put_u32-requires-2 : goal.put_u32-requires-2
put_u32-requires-2 c = search spanning

pub shape_of-room : goal.shape_of-room
shape_of-room c = search spanning

pub returns : goal.returns
returns c = search spanning
