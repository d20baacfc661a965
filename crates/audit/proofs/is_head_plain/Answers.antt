-- `audit::is_head_plain` meets its contract.
use Rattle.audit.proofs.Shape.{heads}
use Rattle.audit.proofs.is_head_plain.Goals as goal

pub returns-then-n-gt-HEAD_ROOM : goal.returns-then-n-gt-HEAD_ROOM
returns-then-n-gt-HEAD_ROOM c = search heads

pub returns : goal.returns
returns c = search heads
