-- `pieces::is_closed_at` meets its contract.
use Rattle.pieces.proofs.Seats.{seats}
use Rattle.pieces.proofs.is_closed_at.Goals as goal

pub is_closed-requires : goal.is_closed-requires
is_closed-requires c = search seats
