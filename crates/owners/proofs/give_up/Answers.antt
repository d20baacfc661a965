-- `owners::give_up` meets its contract.
use Rattle.owners.proofs.Releasing.{giving}
use Rattle.owners.proofs.give_up.Goals as goal

pub returns-in_default : goal.returns-in_default
returns-in_default c = search giving

pub overflow_sub-n : goal.overflow_sub-n
overflow_sub-n c = search (giving, c.in-Some.ensures)

pub remove-requires : goal.remove-requires
remove-requires c = search (giving, c.in-Some.ensures)

pub returns : goal.returns
returns c = search (giving, c.in-Some.ensures)

pub overflow_mul-j : goal.overflow_mul-j
overflow_mul-j c = search (giving, c.in-Some.ensures)
