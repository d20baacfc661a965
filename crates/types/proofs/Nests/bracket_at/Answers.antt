-- `types::Nests::bracket_at` meets its contract.
use Rattle.types.proofs.Entries.{brackets}
use Rattle.types.proofs.Nests.bracket_at.Goals as goal

pub row_at-row-requires : goal.row_at-row-requires
row_at-row-requires c = search brackets

pub returns-then-self-e : goal.returns-then-self-e
returns-then-self-e c = search brackets

pub returns-then-self-i : goal.returns-then-self-i
returns-then-self-i c = search brackets

pub returns : goal.returns
returns c = search brackets
