-- `slots::owns_name` meets its contract.
use Rattle.std.proofs.Common.{rules}
use Rattle.slots.proofs.Searches.{owns_found}
use Rattle.slots.proofs.owns_name.Goals as goal

pub returns : goal.returns
returns c = search (rules, owns_found)
