-- The worked examples hold of the calls: one statement, which antt computes.
use mathlib.Core.Path.{◌≡◌, refl}
use mathlib.Core.Bool.{true}
use Prim.Native.Nat.{ℕ}
use lib.Dec.{eqb}
use Rattle.wire.specs.Lists.{agrees}
use Rattle.wire.specs.Words.{word_at, long_at, word_bytes, long_bytes}
use Rattle.image.specs.Good.{good_header, good_image, outcome_of, image_answer}
use Rattle.memory.specs.Encoding.{rest_bytes, peer_bytes, peer_of}
use Rattle.memory.specs.Good.{good}
use Rattle.memory.specs.Calls.{start_on, connect_on, own_on, release_on, piece_on, disconnect_on, tick_on}
use Rattle.memory.specs.Bench.{memory_table}

pub table_agrees : agrees (λ (given : ℕ). given) eqb memory_table ≡ true
unfolding word_at long_at word_bytes long_bytes good_header good_image outcome_of image_answer rest_bytes peer_bytes peer_of good start_on connect_on own_on release_on piece_on disconnect_on tick_on
table_agrees = refl
