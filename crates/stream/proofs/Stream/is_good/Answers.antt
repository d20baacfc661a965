-- `stream::Stream::is_good` meets its contract: by how much of the head has come.
use Rattle.stream.proofs.Tests.{good_below, good_fault, good_few, good_part, good_past, good_whole, long_head}
use Rattle.stream.proofs.Stream.is_good.Goals as goal

pub returns-then-stored-lt-FIXED_LENGTH : goal.returns-then-stored-lt-FIXED_LENGTH
returns-then-stored-lt-FIXED_LENGTH c = search good_few

pub fixed_part-requires : goal.fixed_part-requires
fixed_part-requires c = search long_head

pub returns-then-stored-end : goal.returns-then-stored-end
returns-then-stored-end c = search good_part

pub returns-then-end-stored : goal.returns-then-end-stored
returns-then-end-stored c = search good_past

pub returns-then-self-end : goal.returns-then-self-end
returns-then-self-end c = search good_below

pub is_good_whole-requires : goal.is_good_whole-requires
is_good_whole-requires c = search good_whole

pub returns-in-Err : goal.returns-in-Err
returns-in-Err c = search good_fault
