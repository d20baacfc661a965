-- `pieces::settle_at` meets its contract.
use Rattle.pieces.proofs.Seats.{seats}
use Rattle.pieces.proofs.settle_at.Goals as goal

pub returns : goal.returns
returns c = search seats
