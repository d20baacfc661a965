-- `audit::is_cell_plain` meets its contract.
use Rattle.audit.proofs.Shape.{cell_tests}
use Rattle.audit.proofs.is_cell_plain.Goals as goal

pub returns : goal.returns
returns c = search cell_tests
