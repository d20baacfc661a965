-- The worked examples hold of the name rules: one statement, which antt computes.
use Rattle.std.proofs.Common.{◌≡◌, refl, true}
use mathlib.Core.Bool.{beq}
use Rattle.names.specs.Names.{starts_with, well_known, unique, valid_name}
use Rattle.wire.specs.Lists.{agrees}
use Rattle.wire.specs.Bytes.{same}
use Rattle.names.specs.Namespace.{in_namespace}
use Rattle.names.specs.Table.{name_answer, name_table}

pub table_agrees : agrees name_answer beq name_table ≡ true
unfolding starts_with well_known unique valid_name same in_namespace
table_agrees = refl
