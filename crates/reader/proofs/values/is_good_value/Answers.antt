-- `reader::values::is_good_value` meets its contract.
use Rattle.reader.proofs.Checks.{value}
use Rattle.reader.proofs.values.is_good_value.Goals as goal

pub number_in-requires : goal.number_in-requires
number_in-requires c = search value

pub returns-in-1 : goal.returns-in-1
returns-in-1 c = search value

pub returns-in-2 : goal.returns-in-2
returns-in-2 c = search value

pub returns-in-3 : goal.returns-in-3
returns-in-3 c = search value

pub returns-in-4 : goal.returns-in-4
returns-in-4 c = search value

pub returns-in-5 : goal.returns-in-5
returns-in-5 c = search value

pub returns-in-6 : goal.returns-in-6
returns-in-6 c = search value

pub returns-in-7 : goal.returns-in-7
returns-in-7 c = search value

pub returns-in-8 : goal.returns-in-8
returns-in-8 c = search value

pub returns-in_default : goal.returns-in_default
returns-in_default c = search value
