-- `reader::element_at` meets its contract.
use Rattle.reader.proofs.Elements.{elements}
use Rattle.reader.proofs.element_at.Goals as goal

pub round_up_8-at-requires : goal.round_up_8-at-requires
round_up_8-at-requires c = search elements

pub returns-then-end-at : goal.returns-then-end-at
returns-then-end-at c = search elements

pub is_zero-requires : goal.is_zero-requires
is_zero-requires c = search elements

pub returns-then-not-is_zero : goal.returns-then-not-is_zero
returns-then-not-is_zero c = search elements

pub bounds-head-at : goal.bounds-head-at
bounds-head-at c = search elements

pub known_at-requires : goal.known_at-requires
known_at-requires c = search elements

pub returns-then-code-lt-CODE_LIMIT : goal.returns-then-code-lt-CODE_LIMIT
returns-then-code-lt-CODE_LIMIT c = search elements

pub unknown_at-requires : goal.unknown_at-requires
unknown_at-requires c = search elements

pub returns : goal.returns
returns c = search elements
