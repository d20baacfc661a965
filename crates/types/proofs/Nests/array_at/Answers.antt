-- `types::Nests::array_at` meets its contract.
use Rattle.types.proofs.Entries.{arrayed}
use Rattle.types.proofs.Nests.array_at.Goals as goal

pub returns-then-self-k : goal.returns-then-self-k
returns-then-self-k c = search arrayed

pub returns-then-b : goal.returns-then-b
returns-then-b c = search arrayed

pub entry_at-requires : goal.entry_at-requires
entry_at-requires c = search arrayed

pub returns-then-b-eq123 : goal.returns-then-b-eq123
returns-then-b-eq123 c = search arrayed

pub returns : goal.returns
returns c = search arrayed
