-- The worked scripts hold: one statement, which antt computes.
use Rattle.std.proofs.Common.{◌≡◌, refl, true}
use Rattle.wire.specs.Lists.{agrees}
use Rattle.wire.specs.Bytes.{same}
use Rattle.wire.specs.Words.{word_at, long_at, word_bytes, long_bytes}
use Rattle.calls.specs.Script.{well_sized, entry_size, words, peer_call, call_of, layout, script_calls, decode}
use Rattle.calls.specs.Table.{script_answer, script_table}

pub table_agrees : agrees script_answer same script_table ≡ true
unfolding same word_at long_at word_bytes long_bytes well_sized entry_size words peer_call call_of layout script_calls decode
table_agrees = refl
