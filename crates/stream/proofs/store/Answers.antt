-- `stream::store` meets its contract: the part of the piece stands in the part of the head.
use Rattle.stream.proofs.Regions.{same_lengths, stores}
use Rattle.stream.proofs.store.Goals as goal

pub copy-requires : goal.copy-requires
copy-requires c = search same_lengths

pub returns : goal.returns
returns c = search stores
