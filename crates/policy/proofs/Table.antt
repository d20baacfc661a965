-- The worked examples hold of the decisions: a statement for each part of the table, which antt computes.
use mathlib.Core.Path.{◌≡◌, refl}
use mathlib.Core.Bool.{true}
use mathlib.Core.List.{List}
use Prim.Native.Nat.{ℕ}
use Rattle.wire.specs.Lists.{agrees}
use Rattle.wire.specs.Bytes.{same}
use Rattle.wire.specs.Words.{word_at, word_bytes}
use Rattle.policy.specs.Precedence.{deciding}
use Rattle.policy.specs.Names.{owns}
use Rattle.policy.specs.Subjects.{in_groups, subject_fits}
use Rattle.policy.specs.Matching.{connect_fits, owned_fits, own_fits, part_fits, interface_fits, parts_fit, name_fits, transaction_fits, transaction_matches}
use Rattle.policy.specs.Decisions.{decides_in, connect_decision, own_decision, transaction_decision}
use Rattle.policy.specs.Table.{DecisionRow, decision_table, people, message_rows, bare_rows}

abbrev Agree : List DecisionRow → Type 0
Agree lines = agrees (λ (given : List ℕ). given) same lines ≡ true

pub table_agrees : Agree decision_table
unfolding same word_at word_bytes deciding owns in_groups subject_fits connect_fits part_fits interface_fits parts_fit name_fits transaction_fits transaction_matches
    decides_in connect_decision own_decision transaction_decision
table_agrees = refl

pub people_agree : Agree people
unfolding same word_at word_bytes deciding in_groups subject_fits connect_fits owned_fits own_fits decides_in connect_decision own_decision
people_agree = refl

pub messages_agree : Agree message_rows
unfolding same word_at word_bytes deciding owns subject_fits part_fits interface_fits parts_fit name_fits transaction_fits transaction_matches decides_in
    transaction_decision
messages_agree = refl

pub bare_agree : Agree bare_rows
unfolding same word_at word_bytes deciding subject_fits part_fits interface_fits parts_fit name_fits transaction_fits transaction_matches decides_in transaction_decision
bare_agree = refl
