-- `wire::zero_run` meets its contract.
use Rattle.std.proofs.Common.{◌≡◌, take, drop}
use Rattle.wire.specs.Bytes.{all_zero}
use Rattle.wire.proofs.zero_run.Given as goal

abbrev pub invariant-loop-i : goal.invariant-loop-i
invariant-loop-i l = l.clear ≡ all_zero (take l.i (drop l.at l.s))
