-- `types::Nests::entry_at` meets its contract.
use Rattle.types.proofs.Entries.{arrayed}
use Rattle.types.proofs.Nests.entry_at.Goals as goal

pub returns-then-not-is_basic : goal.returns-then-not-is_basic
returns-then-not-is_basic c = search arrayed

pub returns-then-peek-ne125 : goal.returns-then-peek-ne125
returns-then-peek-ne125 c = search arrayed

pub returns : goal.returns
returns c = search arrayed
