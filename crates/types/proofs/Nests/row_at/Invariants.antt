-- `types::Nests::row_at` meets its contract.
use Rattle.std.proofs.Common.{◌-◌, length}
use Rattle.types.proofs.Rows.{Walking}
use Rattle.types.proofs.Nests.row_at.Given as goal

abbrev pub invariant-loop-j : goal.invariant-loop-j
invariant-loop-j l = Walking l.self.s.now l.i l.j l.a l.p

abbrev pub decreases-loop-j : goal.decreases-loop-j
decreases-loop-j l = length l.self.s.now - l.j
