-- `names::scan::is_spaced_run` meets its contract.
use Rattle.names.proofs.Runs.{pairing}
use Rattle.names.proofs.scan.is_spaced_run.Goals as goal

pub loop-i-init : goal.loop-i-init
loop-i-init c = search pairing

pub loop-i-preserved : goal.loop-i-preserved
loop-i-preserved c = search pairing
