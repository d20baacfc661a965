-- `names::scan::walk` meets its contract.
use Rattle.names.proofs.Walk.{lone}
use Rattle.names.proofs.scan.walk.Goals as goal

pub returns-then-n-eq0 : goal.returns-then-n-eq0
returns-then-n-eq0 c = search lone
