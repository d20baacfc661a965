-- The header of a new image, written.
use mathlib.Core.Path.{◌≡◌, ◌∙◌}
use mathlib.Core.List.{List, [], ◌∷◌, ◌++◌}
use Prim.Native.Nat.{ℕ, ◌+◌, ◌*◌}
use lib.ListN.{take, drop}
use borrow.Author.Rules.{rules}
use Rattle.wire.specs.Words.{word_bytes}
use Rattle.wire.proofs.Words.{word_length}
use Rattle.tables.specs.Tables.{cells}
use Rattle.tables.proofs.Cells.{cells_length}
use Rattle.image.specs.Image.{sections_at, rule_count, rule_offset, rule_size}
use Rattle.image.specs.Promises.{GoodImage}
use Rattle.image.specs.declared.Section.TheVariants.{Connect, Own, Transaction}
use Rattle.prefixes.specs.Converted.{header_of}
use Rattle.exacts.specs.Promises.{put}

pub header_put : (image : List ℕ) → GoodImage image → (size owns o t c p q : ℕ) → o ≡ rule_offset Own image → t ≡ rule_count Transaction image
    → c ≡ rule_count Connect image → p ≡ rule_offset Own image → q ≡ rule_count Transaction image → (room u : List ℕ)
    → u ≡ take 0 room
    ++ (cells word_bytes
    (size ∷ c ∷ sections_at ∷ owns ∷ p ∷ q ∷ (o + rule_size Own * owns) ∷ (o + rule_size Own * owns + rule_size Transaction * t) ∷ [])
    ++ drop (0 + 4 * 8) room)
    → u ≡ put 0 (cells word_bytes (header_of image size owns)) room
header_put image g size owns o t c p q eo et ec ep eq room u e =
    e ∙ rw (cells_length 4 word_bytes word_length (header_of image size owns), ec, ep, eq, eo, et, g.header.connects_at)

pub ruleset heading = (header_put, rules)
