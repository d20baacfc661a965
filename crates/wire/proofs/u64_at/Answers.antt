-- `wire::u64_at` meets its contract.
use Rattle.std.proofs.Common.{arith}
use Rattle.wire.proofs.Longs.{long_stores}
use Rattle.wire.proofs.u64_at.Goals as goal

pub returns : goal.returns
returns c = (search long_stores, omega arith)
