-- `names::is_bus_name` meets its contract.
use Rattle.names.proofs.Forms.{forms}
use Rattle.names.proofs.is_bus_name.Goals as goal

pub returns-then-s-eq0 : goal.returns-then-s-eq0
returns-then-s-eq0 c = search forms

pub returns-then-s-eq58 : goal.returns-then-s-eq58
returns-then-s-eq58 c = search forms

pub returns : goal.returns
returns c = search forms
