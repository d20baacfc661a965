-- `names::scan::walk_blocks` meets its contract.
use Rattle.names.proofs.Walk.{blocks}
use Rattle.names.proofs.scan.walk_blocks.Goals as goal

pub loop-i-init : goal.loop-i-init
loop-i-init c = search blocks

pub returns-then-not-is_spaced_run : goal.returns-then-not-is_spaced_run
returns-then-not-is_spaced_run c = search blocks

pub loop-i-preserved : goal.loop-i-preserved
loop-i-preserved c = search blocks

pub returns-then-not-is_spaced_run-2 : goal.returns-then-not-is_spaced_run-2
returns-then-not-is_spaced_run-2 c = search blocks

pub returns : goal.returns
returns c = search blocks
