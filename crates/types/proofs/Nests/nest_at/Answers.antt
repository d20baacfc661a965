-- `types::Nests::nest_at` meets its contract.
use Rattle.types.proofs.Entries.{letters}
use Rattle.types.proofs.Nests.nest_at.Goals as goal

pub returns-then-is_basic-b : goal.returns-then-is_basic-b
returns-then-is_basic-b c = search letters

pub returns-then-b-2 : goal.returns-then-b-2
returns-then-b-2 c = search letters

pub returns : goal.returns
returns c = search letters
