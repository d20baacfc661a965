-- `types::Nests::row_at` meets its contract.
use Rattle.types.proofs.Rows.{walking}
use Rattle.types.proofs.Nests.row_at.Goals as goal

pub loop-j-init : goal.loop-j-init
loop-j-init c = search walking

pub returns-then-b : goal.returns-then-b
returns-then-b c = search walking

pub loop-j-preserved : goal.loop-j-preserved
loop-j-preserved c = search walking

pub returns : goal.returns
returns c = search walking
