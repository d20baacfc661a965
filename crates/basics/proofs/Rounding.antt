-- The next multiple of an alignment.
use mathlib.Core.Bool.{Bool, true, false, cond}
use Prim.Native.Nat.{ℕ, ◌+◌, ◌*◌, ◌/◌, ◌≤◌}
use native.Mathlib.Omega.{arith}
use lib.Dec.{eqb}
use Rattle.basics.specs.Values.{round_up}

pub round_low : (k n : ℕ) → n ≤ round_up k n
unfolding round_up
round_low k n = go (eqb k 1) (eqb k 2) (eqb k 4)
  where
    go : (x y z : Bool) → n ≤ cond x n (cond y ((n + 1) / 2 * 2) (cond z ((n + 3) / 4 * 4) ((n + 7) / 8 * 8)))
    go true y z = omega arith
    go false true z = omega arith
    go false false true = omega arith
    go false false false = omega arith
