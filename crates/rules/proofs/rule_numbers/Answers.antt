-- `rules::rule_numbers` meets its contract.
use Rattle.rules.proofs.Numbers.{numbers}
use Rattle.rules.proofs.rule_numbers.Goals as goal

pub enum_told-1 : goal.enum_told-1
enum_told-1 c = search numbers

pub enum_known-shown : goal.enum_known-shown
enum_known-shown c = search numbers

pub decider_numbers-requires : goal.decider_numbers-requires
decider_numbers-requires c = search numbers

pub returns-in-None : goal.returns-in-None
returns-in-None c = search numbers

pub returns-in-Some : goal.returns-in-Some
returns-in-Some c = search numbers
