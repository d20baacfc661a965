-- `owners::own` meets its contract.
use Rattle.owners.proofs.Owning.{owning}
use Rattle.owners.proofs.own.Goals as goal

pub returns-in_default : goal.returns-in_default
returns-in_default c = search owning

pub returns-then-not-is_ownable : goal.returns-then-not-is_ownable
returns-then-not-is_ownable c = search (owning, c.in-Some.ensures)

pub obtain-answer-requires : goal.obtain-answer-requires
obtain-answer-requires c = search (owning, c.in-Some.ensures)

pub returns-then-decision : goal.returns-then-decision
returns-then-decision c = search (owning, c.in-Some.ensures)

pub returns-else-decision : goal.returns-else-decision
returns-else-decision c = search (owning, c.in-Some.ensures)
