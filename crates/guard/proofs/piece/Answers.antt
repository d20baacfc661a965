use Rattle.std.proofs.Common.{rules}
use Rattle.rules.specs.Calls.{no_piece}
use Rattle.memory.specs.Calls.{piece_on}
use Rattle.guard.proofs.Tested.{image_refused, calls}
use Rattle.guard.proofs.piece.Goals as goal

pub piece-requires : goal.piece-requires
piece-requires c = search calls

pub returns-in-Ok : goal.returns-in-Ok
unfolding piece_on
returns-in-Ok c = search calls

pub returns-in-Err : goal.returns-in-Err
unfolding piece_on
returns-in-Err c = search (image_refused no_piece, rules)
