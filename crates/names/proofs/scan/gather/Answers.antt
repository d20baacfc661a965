-- `names::scan::gather` meets its contract.
use Rattle.names.proofs.Runs.{gathering}
use Rattle.names.proofs.scan.gather.Goals as goal

pub loop-i-init : goal.loop-i-init
loop-i-init c = search gathering

pub loop-i-preserved : goal.loop-i-preserved
loop-i-preserved c = search gathering
