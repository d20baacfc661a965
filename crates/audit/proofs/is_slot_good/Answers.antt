-- `audit::is_slot_good` meets its contract.
use Rattle.audit.proofs.Slots.{slot_tests}
use Rattle.audit.proofs.is_slot_good.Goals as goal

pub returns-then-number-eq0 : goal.returns-then-number-eq0
returns-then-number-eq0 c = search slot_tests

pub returns-then-not-is_shaped : goal.returns-then-not-is_shaped
returns-then-not-is_shaped c = search slot_tests

pub returns : goal.returns
returns c = search slot_tests
