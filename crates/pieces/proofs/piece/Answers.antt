-- `pieces::piece` meets its contract.
use Rattle.std.proofs.Common.{sym, ◌∙◌}
use Rattle.pieces.proofs.Offered.{piecing}
use Rattle.pieces.proofs.Once.{fresh_or_not}
use Rattle.pieces.proofs.piece.Goals as goal

pub returns-in_default : goal.returns-in_default
returns-in_default c = search fresh_or_not

pub fresh_at-requires : goal.fresh_at-requires
fresh_at-requires c =
    (search (piecing, c.in-Some.ensures), search (piecing, c.in-Some.ensures), sym c.word_at.ensures.0 ∙ c.if-word_at-eq0.true)

pub returns-then-word_at-eq0 : goal.returns-then-word_at-eq0
returns-then-word_at-eq0 c = search (fresh_or_not, c.in-Some.ensures)

pub is_closed_at-requires : goal.is_closed_at-requires
is_closed_at-requires c = search (fresh_or_not, c.in-Some.ensures)

pub returns-then-is_closed_at : goal.returns-then-is_closed_at
returns-then-is_closed_at c = search (fresh_or_not, c.in-Some.ensures)

pub piece_at-requires : goal.piece_at-requires
piece_at-requires c =
    (search (fresh_or_not, c.in-Some.ensures), search (fresh_or_not, c.in-Some.ensures), sym c.is_closed_at.ensures ∙ c.if-is_closed_at.false)

pub returns : goal.returns
returns c = search (fresh_or_not, c.in-Some.ensures)
