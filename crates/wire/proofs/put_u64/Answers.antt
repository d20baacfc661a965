-- `wire::put_u64` meets its contract.
use Rattle.wire.proofs.Longs.{long_stores}
use Rattle.wire.proofs.put_u64.Goals as goal

pub returns : goal.returns
returns c = search long_stores
