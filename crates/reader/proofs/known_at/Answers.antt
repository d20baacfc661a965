-- `reader::known_at` meets its contract.
use Rattle.reader.proofs.Elements.{fields}
use Rattle.reader.proofs.known_at.Goals as goal

pub returns-then-end-at : goal.returns-then-end-at
returns-then-end-at c = search fields

pub returns-then-not-is_framed : goal.returns-then-not-is_framed
returns-then-not-is_framed c = search fields

pub returns : goal.returns
returns c = search fields
