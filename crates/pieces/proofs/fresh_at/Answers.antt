-- `pieces::fresh_at` meets its contract.
use Rattle.pieces.proofs.Once.{once}
use Rattle.pieces.proofs.fresh_at.Goals as goal

pub piece_at-requires : goal.piece_at-requires
piece_at-requires c = search once

pub length_of-taken-requires : goal.length_of-taken-requires
length_of-taken-requires c = search once

pub piece_at-requires-then-bytes-taken : goal.piece_at-requires-then-bytes-taken
piece_at-requires-then-bytes-taken c = search once

pub judge-requires : goal.judge-requires
judge-requires c = search once

pub returns-else-bytes-taken : goal.returns-else-bytes-taken
returns-else-bytes-taken c = search once
