-- `stream::Stream::is_good_whole` meets its contract: by what the whole head reads as.
use Rattle.stream.proofs.Tests.{whole_body, whole_broken, whole_short}
use Rattle.stream.proofs.Stream.is_good_whole.Goals as goal

pub returns-in-Err-Short : goal.returns-in-Err-Short
returns-in-Err-Short c = search whole_short

pub returns-in-Err-Broken : goal.returns-in-Err-Broken
returns-in-Err-Broken c = search whole_broken

pub returns-in-Ok : goal.returns-in-Ok
returns-in-Ok c = search whole_body
