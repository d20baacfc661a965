-- The worked examples hold of the definition: one statement, which antt computes.
use Rattle.std.proofs.Common.{◌≡◌, refl, true}
use mathlib.Core.Bool.{beq}
use Rattle.wire.specs.Lists.{agrees}
use Rattle.signature.specs.Signature.{head_of, closed_by, one, row}
use Rattle.types.specs.Types.{single}
use Rattle.types.specs.Table.{type_table}

pub table_agrees : agrees single beq type_table ≡ true
unfolding head_of closed_by one row single
table_agrees = refl
