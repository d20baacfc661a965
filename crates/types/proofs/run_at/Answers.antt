-- `types::run_at` meets its contract.
use Rattle.types.proofs.Entries.{runs}
use Rattle.types.proofs.run_at.Goals as goal

pub returns-then-s-i : goal.returns-then-s-i
returns-then-s-i c = search runs

pub returns-then-b : goal.returns-then-b
returns-then-b c = search runs

pub returns : goal.returns
returns c = search runs
