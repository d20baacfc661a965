-- `waits::wait` meets its contract.
use Rattle.waits.proofs.Waits.{waiting}
use Rattle.waits.proofs.wait.Goals as goal

pub returns-then-is_some : goal.returns-then-is_some
returns-then-is_some c = search waiting

pub returns-then-n-ge16 : goal.returns-then-n-ge16
returns-then-n-ge16 c = search waiting

pub returns : goal.returns
returns c = search waiting
