-- `audit::is_good` meets its contract.
use Rattle.audit.proofs.Slots.{auditing}
use Rattle.audit.proofs.is_good.Goals as goal

pub returns-then-memory-ne-MEMORY_LENGTH : goal.returns-then-memory-ne-MEMORY_LENGTH
returns-then-memory-ne-MEMORY_LENGTH c = search auditing

pub loop-i-init : goal.loop-i-init
loop-i-init c = search auditing

pub returns-then-not-is_slot_good : goal.returns-then-not-is_slot_good
returns-then-not-is_slot_good c = search auditing

pub loop-i-preserved : goal.loop-i-preserved
loop-i-preserved c = search auditing

pub returns : goal.returns
returns c = search auditing
