-- `stream::Stream::advance` meets its contract: up to 16 bytes are stored, and then the fixed part is read.
use Rattle.stream.proofs.Beginning.{begun_fixed, begun_open, few, from_fixed, from_open, room_fixed}
use Rattle.stream.proofs.Stream.advance.Goals as goal

pub after_fixed-requires : goal.after_fixed-requires
after_fixed-requires c = search begun_open

pub returns-then-stored-ge-FIXED_LENGTH : goal.returns-then-stored-ge-FIXED_LENGTH
returns-then-stored-ge-FIXED_LENGTH c = search from_open

pub store-used-requires : goal.store-used-requires
store-used-requires c = search room_fixed

pub returns-then-stored-used-lt-FIXED_LENGTH : goal.returns-then-stored-used-lt-FIXED_LENGTH
returns-then-stored-used-lt-FIXED_LENGTH c = search few

pub after_fixed-requires-2 : goal.after_fixed-requires-2
after_fixed-requires-2 c = search begun_fixed

pub returns : goal.returns
returns c = search from_fixed
