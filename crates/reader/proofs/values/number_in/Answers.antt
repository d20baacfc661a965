-- `reader::values::number_in` meets its contract.
use Rattle.reader.proofs.Checks.{number}
use Rattle.reader.proofs.values.number_in.Goals as goal

pub returns-then-value-lt4 : goal.returns-then-value-lt4
returns-then-value-lt4 c = search number

pub u32_at-requires : goal.u32_at-requires
u32_at-requires c = search number

pub returns : goal.returns
returns c = search number
