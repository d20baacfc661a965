-- `reader::read_head` meets its contract.
use Rattle.reader.proofs.Whole.{heads}
use Rattle.reader.proofs.read_head.Goals as goal

pub returns-then-not-is_zero : goal.returns-then-not-is_zero
returns-then-not-is_zero c = search heads

pub judge-requires : goal.judge-requires
judge-requires c = search heads

pub returns-in-Some : goal.returns-in-Some
returns-in-Some c = search heads

pub returns-in-None : goal.returns-in-None
returns-in-None c = search heads
