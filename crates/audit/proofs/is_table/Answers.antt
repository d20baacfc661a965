-- `audit::is_table` meets its contract.
use Rattle.audit.proofs.Shape.{tables}
use Rattle.audit.proofs.is_table.Goals as goal

pub returns-then-k-n : goal.returns-then-k-n
returns-then-k-n c = search tables

pub returns : goal.returns
returns c = search tables
