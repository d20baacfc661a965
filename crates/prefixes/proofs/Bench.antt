-- The worked examples hold of the definitions of a conversion: a statement for each part of the table, which antt computes.
use mathlib.Core.Path.{◌≡◌, refl}
use mathlib.Core.Bool.{true}
use mathlib.Core.List.{List}
use Rattle.wire.specs.Bytes.{same}
use Rattle.wire.specs.Lists.{agrees, distinct}
use Rattle.wire.specs.Words.{word_at, word_bytes}
use Rattle.names.specs.Names.{well_known, valid_name}
use Rattle.names.specs.Namespace.{in_namespace}
use Rattle.tables.specs.Tables.{cells}
use Rattle.image.specs.Good.{good_counts, good_sections, good_header, good_string, good_or_any, good_owned, good_connect_rule, good_own_rule}
use Rattle.image.specs.Good.{good_strings, good_transaction_rule, good_rule, good_image, without_prefixes}
use Rattle.prefixes.specs.Names.{first_entries, entries, listed, whole, good_names, good_list}
use Rattle.prefixes.specs.Copies.{passing, covered, added, copies_from}
use Rattle.prefixes.specs.Converted.{exact, exacts, becomes, become_all, converted, roomy, retire_answer}
use Rattle.prefixes.specs.Table.{ConversionRow, retired, refusals, of_one_prefix, of_many_rules}

abbrev Agree : List ConversionRow → Type 0
Agree lines = agrees retired same lines ≡ true

pub refusals_agree : Agree refusals
unfolding same distinct word_at word_bytes well_known valid_name in_namespace cells good_counts good_sections good_header good_string good_owned good_own_rule good_rule
    good_image without_prefixes first_entries entries listed whole good_names good_list passing covered added copies_from exact exacts becomes become_all converted roomy retire_answer
refusals_agree = refl

pub one_prefix_agrees : Agree of_one_prefix
unfolding same distinct word_at word_bytes well_known valid_name in_namespace cells good_counts good_sections good_header good_string good_owned good_own_rule good_rule
    good_image first_entries entries listed whole good_names good_list passing covered added copies_from exact exacts becomes become_all converted roomy retire_answer
one_prefix_agrees = refl

pub many_rules_agree : Agree of_many_rules
unfolding same distinct word_at word_bytes well_known valid_name in_namespace cells good_counts good_sections good_header good_string good_or_any good_owned good_connect_rule
    good_own_rule good_strings good_transaction_rule good_rule good_image first_entries entries listed whole good_names good_list passing covered added copies_from exact
    exacts becomes become_all converted roomy retire_answer
many_rules_agree = refl
