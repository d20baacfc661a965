-- `stream::Stream::in_body` meets its contract: bytes of the body are counted.
use Rattle.stream.proofs.Onward.{end_body, more_body}
use Rattle.stream.proofs.Stream.in_body.Goals as goal

pub returns-then-got-message : goal.returns-then-got-message
returns-then-got-message c = search more_body

pub after_head-requires : goal.after_head-requires
after_head-requires c = search end_body
