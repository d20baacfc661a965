-- `names::scan::walk_two` meets its contract.
use Rattle.names.proofs.Walk.{two}
use Rattle.names.proofs.scan.walk_two.Goals as goal

pub returns-then-not-is_spaced_run : goal.returns-then-not-is_spaced_run
returns-then-not-is_spaced_run c = search two

pub returns-then-not-is_spaced_run-2 : goal.returns-then-not-is_spaced_run-2
returns-then-not-is_spaced_run-2 c = search two

pub returns : goal.returns
returns c = search two
