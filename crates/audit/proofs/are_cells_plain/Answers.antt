-- `audit::are_cells_plain` meets its contract.
use Rattle.audit.proofs.Shape.{cells}
use Rattle.audit.proofs.are_cells_plain.Goals as goal

pub returns-then-n-gt-NAME_ROOM : goal.returns-then-n-gt-NAME_ROOM
returns-then-n-gt-NAME_ROOM c = search cells

pub loop-j-init : goal.loop-j-init
loop-j-init c = search cells

pub returns-then-not-is_cell_plain : goal.returns-then-not-is_cell_plain
returns-then-not-is_cell_plain c = search cells

pub loop-j-preserved : goal.loop-j-preserved
loop-j-preserved c = search cells

pub returns : goal.returns
returns c = search cells
