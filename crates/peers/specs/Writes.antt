-- Bytes as connect writes them.
use Rattle.std.specs.Prelude.{List, ◌++◌, ℕ, length}
use Rattle.wire.specs.Words.{word_bytes}
use Rattle.tables.specs.Tables.{cells}

-- what is written of a peer that connects
unfoldable pub new_bytes : ℕ → ℕ → List ℕ → List ℕ
new_bytes number uid gids = word_bytes number ++ (word_bytes uid ++ (word_bytes (length gids) ++ cells word_bytes gids))
