-- `audit::are_calls_good` meets its contract.
use Rattle.audit.proofs.Calls.{calling}
use Rattle.audit.proofs.are_calls_good.Goals as goal

pub loop-j-init : goal.loop-j-init
loop-j-init c = search calling

pub returns-then-not-is_call_good : goal.returns-then-not-is_call_good
returns-then-not-is_call_good c = search calling

pub loop-j-preserved : goal.loop-j-preserved
loop-j-preserved c = search calling
