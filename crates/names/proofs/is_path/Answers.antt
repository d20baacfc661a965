-- `names::is_path` meets its contract.
use Rattle.names.proofs.Forms.{path_laws}
use Rattle.names.proofs.is_path.Goals as goal

pub returns-then-s-eq0 : goal.returns-then-s-eq0
returns-then-s-eq0 c = search path_laws

pub returns-then-s : goal.returns-then-s
returns-then-s c = search path_laws

pub returns-then-s-eq1 : goal.returns-then-s-eq1
returns-then-s-eq1 c = search path_laws

pub returns-then-s-2 : goal.returns-then-s-2
returns-then-s-2 c = search path_laws

pub returns : goal.returns
returns c = search path_laws
