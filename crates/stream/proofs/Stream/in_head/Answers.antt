-- `stream::Stream::in_head` meets its contract: bytes are stored up to the head's end.
use Rattle.stream.proofs.Onward.{end_head, from_head, more_head, past_head, room_head}
use Rattle.stream.proofs.Stream.in_head.Goals as goal

pub in_body-requires : goal.in_body-requires
in_body-requires c = search past_head

pub store-k-requires : goal.store-k-requires
store-k-requires c = search room_head

pub returns-then-stored-k : goal.returns-then-stored-k
returns-then-stored-k c = search more_head

pub after_head-requires : goal.after_head-requires
after_head-requires c = search end_head

pub returns : goal.returns
returns c = search from_head
