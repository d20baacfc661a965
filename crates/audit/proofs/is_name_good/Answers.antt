-- `audit::is_name_good` meets its contract.
use Rattle.audit.proofs.Names.{name_tests}
use Rattle.audit.proofs.is_name_good.Goals as goal

pub returns-then-not-is_ownable : goal.returns-then-not-is_ownable
returns-then-not-is_ownable c = search name_tests

pub returns-then-owns_name : goal.returns-then-owns_name
returns-then-owns_name c = search name_tests

pub returns : goal.returns
returns c = search name_tests
