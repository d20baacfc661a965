-- `pieces::piece_at` meets its contract.
use Rattle.pieces.proofs.Offered.{offering}
use Rattle.pieces.proofs.piece_at.Goals as goal

pub judge_at-judgement-requires : goal.judge_at-judgement-requires
judge_at-judgement-requires c = search offering

pub returns-in-Whole : goal.returns-in-Whole
returns-in-Whole c = search offering
