-- `names::scan::is_spaced_run` meets its contract.
use Rattle.std.proofs.Common.{◌≡◌}
use Rattle.names.specs.Scan.{spaced_run}
use Rattle.names.proofs.scan.is_spaced_run.Given as goal

abbrev pub invariant-loop-i : goal.invariant-loop-i
invariant-loop-i l = l.good ≡ spaced_run l.high l.s l.at l.i
