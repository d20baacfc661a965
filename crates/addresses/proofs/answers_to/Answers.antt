-- `addresses::answers_to` meets its contract.
use Rattle.addresses.proofs.Addresses.{answering}
use Rattle.addresses.proofs.answers_to.Goals as goal

pub returns-then-number-eq0 : goal.returns-then-number-eq0
returns-then-number-eq0 c = search answering

pub returns-then-has_unique_name : goal.returns-then-has_unique_name
returns-then-has_unique_name c = search answering

pub returns-else-has_unique_name : goal.returns-else-has_unique_name
returns-else-has_unique_name c = search answering
