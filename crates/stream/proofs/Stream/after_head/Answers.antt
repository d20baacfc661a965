-- `stream::Stream::after_head` meets its contract: a whole head is broken, or its body is counted to the message's end.
use Rattle.stream.proofs.Onward.{broken_end, more_end, never_short, whole_end}
use Rattle.stream.proofs.Stream.after_head.Goals as goal

pub returns-then-message-got : goal.returns-then-message-got
returns-then-message-got c = search whole_end

pub returns-in-Err-Broken : goal.returns-in-Err-Broken
returns-in-Err-Broken c = search broken_end

pub returns-else-message-got : goal.returns-else-message-got
returns-else-message-got c = search more_end

pub returns-in-Err-Short : goal.returns-in-Err-Short
returns-in-Err-Short c = search never_short
