-- The worked examples hold: one statement each, which antt computes.
use mathlib.Core.Path.{◌≡◌, refl}
use mathlib.Core.Bool.{true}
use Rattle.wire.specs.Lists.{agrees}
use Rattle.wire.specs.Bytes.{all_zero}
use Rattle.wire.specs.Words.{word_at}
use Rattle.names.specs.Names.{valid_name, starts_with}
use Rattle.signature.specs.Signature.{head_of, closed_by, one, row, valid_signature}
use Rattle.utf8.specs.Utf8.{lead_of, utf8_from, valid_utf_8}
use Rattle.types.specs.Letters.{align_of}
use Rattle.types.specs.Types.{behind, single}
use Rattle.basics.specs.Values.{round_up, padded, number_at, boolean_at, text_in, text_at, short_text_at, plain_at}
use Rattle.variant.specs.Opening.{done_at, array_in, array_at, row_at, variant_at, opening_at, begin_of}
use Rattle.variant.specs.Walk.{value, items, skipped, row as values}
use Rattle.variant.specs.Table.{answer, same_stop, table, deep}

pub table_agrees : agrees answer same_stop table ≡ true
unfolding all_zero word_at valid_name starts_with head_of closed_by one row valid_signature lead_of utf8_from valid_utf_8 align_of behind single round_up padded
    number_at boolean_at text_in text_at short_text_at plain_at done_at array_in array_at row_at variant_at opening_at begin_of value items values skipped
table_agrees = refl

pub deep_agrees : agrees answer same_stop deep ≡ true
unfolding all_zero word_at valid_name starts_with head_of closed_by one row valid_signature lead_of utf8_from valid_utf_8 align_of behind single round_up padded
    number_at boolean_at text_in text_at short_text_at plain_at done_at array_in array_at row_at variant_at opening_at begin_of value items values skipped
deep_agrees = refl
