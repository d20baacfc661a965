-- `reader::value_at` meets its contract.
use Rattle.reader.proofs.Elements.{values}
use Rattle.reader.proofs.value_at.Goals as goal

pub returns-then-end-at : goal.returns-then-end-at
returns-then-end-at c = search values

pub returns-then-letter-eq103 : goal.returns-then-letter-eq103
returns-then-letter-eq103 c = search values

pub returns-then-end-at-2 : goal.returns-then-end-at-2
returns-then-end-at-2 c = search values

pub returns-then-letter-eq117 : goal.returns-then-letter-eq117
returns-then-letter-eq117 c = search values

pub returns : goal.returns
returns c = search values
