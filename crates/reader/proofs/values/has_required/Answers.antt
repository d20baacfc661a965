-- `reader::values::has_required` meets its contract.
use Rattle.reader.proofs.Checks.{required}
use Rattle.reader.proofs.values.has_required.Goals as goal

pub has-requires : goal.has-requires
has-requires c = search required

pub has-requires-in-1 : goal.has-requires-in-1
has-requires-in-1 c = search required

pub has-requires-in-2 : goal.has-requires-in-2
has-requires-in-2 c = search required

pub has-requires-in-3 : goal.has-requires-in-3
has-requires-in-3 c = search required

pub has-requires-in-3-2 : goal.has-requires-in-3-2
has-requires-in-3-2 c = search required

pub has-requires-in-4 : goal.has-requires-in-4
has-requires-in-4 c = search required

pub has-requires-in-4-2 : goal.has-requires-in-4-2
has-requires-in-4-2 c = search required

pub has-requires-in-4-3 : goal.has-requires-in-4-3
has-requires-in-4-3 c = search required

pub returns-in-1 : goal.returns-in-1
returns-in-1 c = search required

pub returns-in-2 : goal.returns-in-2
returns-in-2 c = search required

pub returns-in-3 : goal.returns-in-3
returns-in-3 c = search required

pub returns-in-4 : goal.returns-in-4
returns-in-4 c = search required

pub returns-in_default : goal.returns-in_default
returns-in_default c = search required
