-- `rules::decider_numbers` meets its contract.
use Rattle.rules.proofs.Numbers.{numbers}
use Rattle.rules.proofs.decider_numbers.Goals as goal

pub enum_told-1 : goal.enum_told-1
enum_told-1 c = search numbers

pub enum_known-decider : goal.enum_known-decider
enum_known-decider c = search numbers

pub returns-in-Nobody : goal.returns-in-Nobody
returns-in-Nobody c = search numbers

pub returns-in-Rule : goal.returns-in-Rule
returns-in-Rule c = search numbers
