-- `reader::walk_all` meets its contract.
use Prim.Native.Nat.{◌-◌}
use Rattle.header.specs.Fixed.{order_of}
use Rattle.reader.proofs.Walking.{Walking}
use Rattle.reader.proofs.walk_all.Given as goal

abbrev pub invariant-loop-from : goal.invariant-loop-from
invariant-loop-from l = Walking (order_of l.head) l.head l.end l.places l.from

abbrev pub decreases-loop-from : goal.decreases-loop-from
decreases-loop-from l = l.end - l.from
