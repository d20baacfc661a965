-- `judge::judge` meets its contract.
use Rattle.judge.proofs.Whole.{judging}
use Rattle.judge.proofs.judge.Goals as goal

pub refused-requires : goal.refused-requires
refused-requires c = search judging

pub returns-then-header-gt-SIGNAL : goal.returns-then-header-gt-SIGNAL
returns-then-header-gt-SIGNAL c = search judging

pub resolve-to-requires : goal.resolve-to-requires
resolve-to-requires c = search judging

pub reply-requires : goal.reply-requires
reply-requires c = search judging

pub shape_of-memory-then-header : goal.shape_of-memory-then-header
shape_of-memory-then-header c = search judging

pub returns-then-header : goal.returns-then-header
returns-then-header c = search judging

pub direct-requires : goal.direct-requires
direct-requires c = search judging

pub shape_of-memory : goal.shape_of-memory
shape_of-memory c = search judging

pub returns : goal.returns
returns c = search judging
