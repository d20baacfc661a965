-- The worked examples hold of the policy image's rules: a statement for each part of the table, which antt computes.
use mathlib.Core.Path.{◌≡◌, refl}
use mathlib.Core.Bool.{true}
use mathlib.Core.List.{List}
use lib.Dec.{eqb}
use Rattle.wire.specs.Lists.{agrees}
use Rattle.wire.specs.Words.{word_at, word_bytes}
use Rattle.names.specs.Names.{starts_with, well_known, valid_name}
use Rattle.image.specs.Good.{good_counts, good_sections, good_header, good_string, good_or_any, good_owned, good_connect_rule, good_own_rule}
use Rattle.image.specs.Good.{good_strings, good_transaction_rule, good_rule, good_image, outcome_of, image_answer}
use Rattle.image.specs.Table.{ImageRow, image_table, own_rows, transactions}

abbrev Agree : List ImageRow → Type 0
Agree lines = agrees image_answer eqb lines ≡ true

pub table_agrees : Agree image_table
unfolding word_at word_bytes good_counts good_sections good_header good_connect_rule good_or_any good_strings good_transaction_rule good_rule good_image outcome_of image_answer
table_agrees = refl

pub owns_agree : Agree own_rows
unfolding word_at word_bytes starts_with well_known valid_name good_counts good_sections good_header good_string good_or_any good_owned good_own_rule good_rule good_image
    outcome_of image_answer
owns_agree = refl

pub transactions_agree : Agree transactions
unfolding word_at word_bytes starts_with well_known valid_name good_counts good_sections good_header good_string good_or_any good_strings good_transaction_rule good_rule
    good_image outcome_of image_answer
transactions_agree = refl
