-- The worked examples hold of the definition of a head: one statement, which antt computes.
use mathlib.Core.Path.{◌≡◌, refl}
use mathlib.Core.Bool.{true}
use lib.Dec.{eqb}
use Rattle.wire.specs.Lists.{agrees}
use Rattle.wire.specs.Bytes.{all_zero}
use Rattle.wire.specs.Words.{word_at, word_bytes}
use Rattle.names.specs.Names.{starts_with, well_known, unique, valid_name}
use Rattle.signature.specs.Signature.{head_of, closed_by, one, row, valid_signature}
use Rattle.utf8.specs.Utf8.{lead_of, utf8_from, valid_utf_8}
use Rattle.types.specs.Letters.{align_of}
use Rattle.types.specs.Types.{behind, single}
use Rattle.basics.specs.Values.{round_up, padded, number_at, boolean_at, text_at, short_text_at, plain_at, text_in as validTextIn}
use Rattle.variant.specs.Opening.{done_at, array_in, array_at, row_at, variant_at, opening_at, begin_of}
use Rattle.variant.specs.Walk.{value, items, skipped, row as values}
use Rattle.header.specs.Fixed.{order_of, head_length, message_length, sizes_of, fixed_part}
use Rattle.header.specs.Codes.{letter_of}
use Rattle.header.specs.Fields.{text_in, value_at, framed, known_at, unknown_at, element_at, walk, fields_of}
use Rattle.header.specs.Values.{number_in, good_value, good_field, good_values}
use Rattle.header.specs.Required.{has_required}
use Rattle.header.specs.Header.{header_of, judged_head, read_head, read_header}
use Rattle.header.specs.Table.{head_table, head_answer, fixed_table, fixed_answer_to}

pub table_agrees : agrees head_answer eqb head_table ≡ true
unfolding all_zero word_at word_bytes starts_with well_known unique valid_name order_of head_length message_length sizes_of fixed_part letter_of text_in value_at framed
    head_of closed_by one row valid_signature lead_of utf8_from valid_utf_8 align_of behind single round_up padded number_at boolean_at
    text_at short_text_at plain_at done_at array_in array_at row_at variant_at opening_at begin_of validTextIn value items skipped values
    known_at unknown_at element_at walk fields_of number_in good_value good_field good_values has_required header_of judged_head read_head read_header
table_agrees = refl

-- and of its fixed part alone
pub fixed_agrees : agrees fixed_answer_to eqb fixed_table ≡ true
unfolding word_at word_bytes order_of head_length message_length sizes_of fixed_part
fixed_agrees = refl
