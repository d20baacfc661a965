use Rattle.exacts.proofs.Exact.{exacting}
use Rattle.exacts.proofs.put_exact.Goals as goal

pub returns : goal.returns
returns c = search exacting
