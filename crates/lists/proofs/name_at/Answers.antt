-- `lists::name_at` meets its contract.
use Rattle.lists.proofs.Lists.{name_cut}
use Rattle.lists.proofs.name_at.Goals as goal

pub returns : goal.returns
returns c = search name_cut
