-- The worked examples hold of streams: one statement, which antt computes.
use mathlib.Core.Path.{◌≡◌, refl}
use mathlib.Core.Bool.{true}
use Rattle.wire.specs.Lists.{agrees}
use Rattle.wire.specs.Bytes.{all_zero, same}
use Rattle.wire.specs.Words.{word_at, word_bytes}
use Rattle.names.specs.Names.{starts_with, well_known, unique, valid_name}
use Rattle.header.specs.Fixed.{order_of, head_length, message_length, sizes_of, fixed_part}
use Rattle.header.specs.Codes.{letter_of}
use Rattle.header.specs.Fields.{text_in, value_at, framed, known_at, element_at, walk, fields_of}
use Rattle.header.specs.Values.{number_in, good_value, good_field, good_values}
use Rattle.header.specs.Required.{has_required}
use Rattle.header.specs.Header.{header_of, judged_head, read_head, read_header}
use Rattle.stream.specs.Stream.{offer}
use Rattle.stream.specs.Tail.{good_tail}
use Rattle.stream.specs.Table.{stream_table, stream_answer}

pub table_agrees : agrees stream_answer same stream_table ≡ true
unfolding all_zero same word_at word_bytes starts_with well_known unique valid_name order_of head_length message_length sizes_of fixed_part letter_of text_in value_at
    framed known_at element_at walk fields_of number_in good_value good_field good_values has_required header_of judged_head read_head read_header offer good_tail
table_agrees = refl
