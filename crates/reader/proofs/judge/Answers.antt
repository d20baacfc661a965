-- `reader::judge` meets its contract.
use Rattle.reader.proofs.Whole.{judging}
use Rattle.reader.proofs.judge.Goals as goal

pub are_good-requires : goal.are_good-requires
are_good-requires c = search judging

pub returns-then-not-are_good : goal.returns-then-not-are_good
returns-then-not-are_good c = search judging

pub bounds-head-1 : goal.bounds-head-1
bounds-head-1 c = search judging

pub has_required-requires : goal.has_required-requires
has_required-requires c = search judging

pub returns-then-not-has_required : goal.returns-then-not-has_required
returns-then-not-has_required c = search judging

pub header_of-requires : goal.header_of-requires
header_of-requires c = search judging

pub returns : goal.returns
returns c = search judging
