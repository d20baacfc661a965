-- `tables::cut_out` meets its contract.
use Rattle.tables.proofs.Cutting.{cutting}
use Rattle.tables.proofs.cut_out.Goals as goal

pub returns : goal.returns
returns c = search cutting
