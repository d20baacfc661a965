-- `retire::gather` meets its contract. The loop's invariant: the names before `at` are told, and those from `at` on are to come.
use Prim.Native.Nat.{◌-◌}
use lib.ListN.{length}
use Rattle.retire.proofs.Gathering.{Gathering}
use Rattle.retire.proofs.gather.Given as goal

abbrev pub invariant-loop-at : goal.invariant-loop-at
invariant-loop-at l = Gathering l.image l.list l.starts l.names l.bytes l.rules l.at

abbrev pub decreases-loop-at : goal.decreases-loop-at
decreases-loop-at l = length l.list - l.at
