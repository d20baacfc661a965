-- `addresses::has_unique_name` meets its contract.
use Rattle.addresses.proofs.Unique.{uniques}
use Rattle.addresses.proofs.has_unique_name.Goals as goal

pub returns-else-peek-eq58 : goal.returns-else-peek-eq58
returns-else-peek-eq58 c = search uniques
