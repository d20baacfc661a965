-- `wire::zero_short` meets its contract.
use Rattle.wire.proofs.Blocks.{zeros}
use Rattle.wire.proofs.Loads.{loads}
use Rattle.wire.proofs.zero_short.Goals as goal

pub returns : goal.returns
returns c = search (zeros, loads)
