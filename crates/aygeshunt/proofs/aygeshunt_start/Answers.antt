-- `aygeshunt::aygeshunt_start` meets its contract.
use Rattle.aygeshunt.proofs.Placed.{placing}
use Rattle.aygeshunt.proofs.aygeshunt_start.Goals as goal

pub returns-then-place-lt-PLACE_LENGTH : goal.returns-then-place-lt-PLACE_LENGTH
returns-then-place-lt-PLACE_LENGTH c = search placing

pub returns : goal.returns
returns c = search placing
