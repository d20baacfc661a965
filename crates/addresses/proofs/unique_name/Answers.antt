-- `addresses::unique_name` meets its contract.
use Rattle.addresses.proofs.Unique.{spelling}
use Rattle.addresses.proofs.unique_name.Goals as goal

pub loop-k-preserved : goal.loop-k-preserved
loop-k-preserved c = search spelling

pub returns : goal.returns
returns c = search spelling
