-- `names::in_namespace` meets its contract.
use Rattle.names.proofs.Namespace.{under}
use Rattle.names.proofs.in_namespace.Goals as goal

pub returns-then-name-n : goal.returns-then-name-n
returns-then-name-n c = search under

pub returns-then-name-n-2 : goal.returns-then-name-n-2
returns-then-name-n-2 c = search under

pub returns-then-name-n-ne46 : goal.returns-then-name-n-ne46
returns-then-name-n-ne46 c = search under

pub returns : goal.returns
returns c = search under
