-- `stream::Stream::after_fixed` meets its contract: the fixed part is broken, or says where the head and the message end.
use Rattle.stream.proofs.Beginning.{long_fixed, broken_fixed, sizes_fixed}
use Rattle.stream.proofs.Stream.after_fixed.Goals as goal

pub fixed_part-requires : goal.fixed_part-requires
fixed_part-requires c = search long_fixed

pub in_head-requires : goal.in_head-requires
in_head-requires c = search sizes_fixed

pub returns-in-Err : goal.returns-in-Err
returns-in-Err c = search broken_fixed
