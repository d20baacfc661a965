-- `pieces::feed_at` meets its contract.
use Rattle.pieces.proofs.Seats.{seats}
use Rattle.pieces.proofs.feed_at.Goals as goal

pub feed-requires : goal.feed-requires
feed-requires c = search seats

pub returns : goal.returns
returns c = search seats
