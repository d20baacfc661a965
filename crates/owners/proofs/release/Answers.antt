-- `owners::release` meets its contract.
use Rattle.owners.proofs.Releasing.{releasing}
use Rattle.owners.proofs.release.Goals as goal

pub returns-in_default : goal.returns-in_default
returns-in_default c = search releasing

pub returns-then-not-ownable : goal.returns-then-not-ownable
returns-then-not-ownable c = search (releasing, c.in-Some.ensures)

pub give_up-requires : goal.give_up-requires
give_up-requires c = search (releasing, c.in-Some.ensures)

pub returns : goal.returns
returns c = search (releasing, c.in-Some.ensures)
