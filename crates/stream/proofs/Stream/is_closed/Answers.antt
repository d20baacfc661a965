-- `stream::Stream::is_closed` meets its contract: a good stream is closed where its head is broken.
use Rattle.stream.proofs.Tests.{closed_body, closed_broken, closed_few, closed_short, closed_whole}
use Rattle.stream.proofs.Stream.is_closed.Goals as goal

pub returns-then-stored-lt-FIXED_LENGTH : goal.returns-then-stored-lt-FIXED_LENGTH
returns-then-stored-lt-FIXED_LENGTH c = search closed_few

pub returns-then-stored-self : goal.returns-then-stored-self
returns-then-stored-self c = search closed_body

pub returns-in-Err-Short : goal.returns-in-Err-Short
returns-in-Err-Short c = search closed_short

pub returns-in-Err-Broken : goal.returns-in-Err-Broken
returns-in-Err-Broken c = search closed_broken

pub returns-in-Ok : goal.returns-in-Ok
returns-in-Ok c = search closed_whole
