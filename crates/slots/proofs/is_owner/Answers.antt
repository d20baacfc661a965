-- `slots::is_owner` meets its contract.
use Rattle.slots.proofs.Owned.{owners}
use Rattle.slots.proofs.is_owner.Goals as goal

pub returns-then-number_at-ne0 : goal.returns-then-number_at-ne0
returns-then-number_at-ne0 c = search owners

pub returns-else-number_at-ne0 : goal.returns-else-number_at-ne0
returns-else-number_at-ne0 c = search owners
