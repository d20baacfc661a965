-- T1 to T12 and more lines hold of the rules: one statement over each table, which antt computes (rule 13.1).
use mathlib.Core.Path.{◌≡◌, refl}
use mathlib.Core.Bool.{true}
use Rattle.wire.specs.Lists.{agrees}
use Rattle.wire.specs.Bytes.{all_zero, same}
use Rattle.wire.specs.Words.{word_at, word_bytes}
use Rattle.names.specs.Names.{starts_with, well_known, unique, valid_name}
use Rattle.names.specs.Namespace.{in_namespace}
use Rattle.signature.specs.Signature.{head_of, closed_by, one, row, valid_signature}
use Rattle.header.specs.Fixed.{order_of, head_length, message_length, sizes_of, fixed_part}
use Rattle.header.specs.Codes.{letter_of}
use Rattle.header.specs.Fields.{text_in, value_at, framed, known_at, element_at, walk, fields_of}
use Rattle.header.specs.Values.{number_in, good_value, good_field, good_values}
use Rattle.header.specs.Required.{has_required}
use Rattle.header.specs.Header.{header_of, judged_head, read_head, read_header}
use Rattle.image.specs.Good.{good_counts, good_sections, good_header, good_string, good_or_any, good_owned, good_connect_rule, good_own_rule, good_strings}
use Rattle.image.specs.Good.{good_transaction_rule, good_rule, good_image, outcome_of, image_answer}
use Rattle.policy.specs.Subjects.{in_groups, subject_fits}
use Rattle.policy.specs.Names.{owns}
use Rattle.policy.specs.Precedence.{deciding}
use Rattle.policy.specs.Matching.{connect_fits, owned_fits, own_fits, message_of, part_fits, interface_fits, parts_fit, name_fits, transaction_fits, transaction_matches}
use Rattle.policy.specs.Decisions.{decides_in, connect_decision, own_decision, transaction_decision}
use Rattle.stream.specs.Stream.{offer}
use Rattle.rules.specs.State.{first_by, drop_first}
use Rattle.rules.specs.Addresses.{digits, unique_name, answers_to, resolve}
use Rattle.rules.specs.Pending.{awaits, ended, ended_where, count_where, count_in}
use Rattle.rules.specs.Judge.{mask_of, count_of, judged}
use Rattle.rules.specs.Calls.{connect, own, piece, disconnect, tick}
use Rattle.book.specs.Book.{cut_off}
use Rattle.rules.specs.Series.{series}
use Rattle.book.specs.Lists.{model_step, answers, after}
use Rattle.book.specs.Tally.{call_tallied, begins, tallied}
use Rattle.book.specs.Bench.{worked_answer, worked_table, further_rows}
use Rattle.book.specs.Table.{tally_shown, tally_table}
use Rattle.book.specs.Batches.{batch_shown, batch_table}

all_agree : (agrees worked_answer same worked_table ≡ true) × (agrees worked_answer same further_rows ≡ true) × (agrees tally_shown same tally_table ≡ true)
    × (agrees batch_shown same batch_table ≡ true)
unfolding all_zero same word_at word_bytes starts_with well_known unique valid_name in_namespace head_of closed_by one row valid_signature order_of head_length
    message_length sizes_of fixed_part letter_of text_in value_at framed known_at element_at walk fields_of number_in good_value good_field good_values has_required header_of
    judged_head read_head read_header good_counts good_sections good_header good_string good_or_any good_owned good_connect_rule good_own_rule good_strings
    good_transaction_rule good_rule good_image outcome_of image_answer in_groups subject_fits owns deciding connect_fits owned_fits own_fits message_of part_fits
    interface_fits parts_fit name_fits transaction_fits transaction_matches decides_in connect_decision own_decision transaction_decision offer first_by digits
    unique_name answers_to resolve drop_first awaits ended ended_where count_where count_in mask_of count_of judged connect own piece disconnect tick cut_off model_step answers call_tallied
    begins tallied series after
all_agree = (refl, refl, refl, refl)

pub table_agrees : agrees worked_answer same worked_table ≡ true
table_agrees = all_agree.0

pub more_agrees : agrees worked_answer same further_rows ≡ true
more_agrees = all_agree.1

pub tally_agrees : agrees tally_shown same tally_table ≡ true
tally_agrees = all_agree.2

pub batches_agree : agrees batch_shown same batch_table ≡ true
batches_agree = all_agree.3
