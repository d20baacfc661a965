-- `audit::are_cells_plain` meets its contract.
use Rattle.audit.proofs.Shape.{CellsInvariant}
use Rattle.audit.proofs.are_cells_plain.Given as goal

abbrev pub invariant-loop-j : goal.invariant-loop-j
invariant-loop-j l = CellsInvariant l.memory l.i l.n l.j
