-- What the steps of writing a new image require and promise.
use Rattle.std.specs.Prelude.{◌≡◌, List, ◌++◌, ℕ, ◌+◌, ◌-◌, ◌*◌, ◌≤◌, ◌<◌, length, take, drop}
use Rattle.wire.specs.Words.{word_bytes}
use Rattle.tables.specs.Tables.{cells}
use Rattle.image.specs.Image.{rule_count, rule_offset, rule_size, string_offset}
use Rattle.image.specs.Promises.{GoodImage}
use Rattle.image.specs.declared.Section.TheVariants.{Own, Transaction}
use Rattle.prefixes.specs.Copies.{Copy, added, copies_from}
use Rattle.prefixes.specs.Converted.{exacts, becomes, become_all, joined, new_owns, header_of, new_length, connect_bytes, behind_owns}
use Rattle.lists.specs.Promises.{NamesAt, names_at}

-- the bytes stand in the room from `at` on, and all others are what they were
abbrev pub put : ℕ → List ℕ → List ℕ → List ℕ
put at bytes room = take at room ++ (bytes ++ drop (at + length bytes) room)

-- rules stand in the room from `at` on, each as long as an own rule, and end at `end`
pub record Puts (rows : List (List ℕ)) (at : ℕ) (room : List ℕ) (end : ℕ) (after : List ℕ) : Type 0 where
  pub long : length (joined rows) ≡ rule_size Own * length rows
  pub ends : end ≡ at + rule_size Own * length rows
  pub left : after ≡ take at room ++ (joined rows ++ drop end room)

-- there is room for a rule made exact, and the offset and the length of its string are numbers of four bytes
pub record ExactAt (room : List ℕ) (at : ℕ) (rule : List ℕ) (offset len : ℕ) : Type 0 where
  pub fits : at + rule_size Own ≤ length room
  pub ruled : length rule ≡ rule_size Own
  pub offset_small : offset < 4294967296
  pub len_small : len < 4294967296

-- the copies of these names, behind the strings of the image
abbrev pub copies_at : List ℕ → List ℕ → List ℕ → List Copy
copies_at image list starts = copies_from (length image - string_offset image) (names_at list starts)

-- the offsets and lengths of copies from `offset` on are numbers of four bytes
abbrev pub Small : ℕ → List ℕ → List ℕ → Type 0
Small offset list starts = offset + length (joined (names_at list starts)) ≤ 131072

-- there is room for the exact rules that a rule with this prefix becomes
pub record ExactsAt (room : List ℕ) (at : ℕ) (rule prefix : List ℕ) (offset : ℕ) (list starts : List ℕ) : Type 0 where
  pub ruled : length rule ≡ rule_size Own
  pub fits : at + rule_size Own * length (exacts rule prefix (copies_from offset (names_at list starts))) ≤ length room
  pub small : Small offset list starts
  pub each : NamesAt list starts

-- there is room for what becomes of own rule i
pub record RuleAt (room : List ℕ) (at : ℕ) (image : List ℕ) (i : ℕ) (list starts : List ℕ) : Type 0 where
  pub good : GoodImage image
  pub inside : i < rule_count Own image
  pub fits : at + rule_size Own * length (becomes image (copies_at image list starts) i) ≤ length room
  pub small : Small (length image) list starts
  pub each : NamesAt list starts

-- and of all
pub record OwnsAt (room : List ℕ) (at : ℕ) (image list starts : List ℕ) : Type 0 where
  pub good : GoodImage image
  pub fits : at + rule_size Own * length (become_all image (copies_at image list starts) (rule_count Own image)) ≤ length room
  pub small : Small (length image) list starts
  pub each : NamesAt list starts

-- all that stands before the own rules of a new image: its header, and the connect rules
abbrev pub front_of : List ℕ → ℕ → ℕ → List ℕ
front_of image size owns = cells word_bytes (header_of image size owns) ++ connect_bytes image

pub record FrontAt (room image : List ℕ) (size owns : ℕ) : Type 0 where
  pub good : GoodImage image
  pub small : size ≤ 65536
  pub few : owns ≤ 256
  pub fits : rule_offset Own image ≤ length room

-- all that stands behind them: the transaction rules, the old strings, and the names that are added
abbrev pub back_of : List ℕ → List ℕ → List ℕ → List ℕ
back_of image list starts = behind_owns image ++ joined (names_at list starts)

pub record BackAt (room : List ℕ) (at : ℕ) (image list starts : List ℕ) : Type 0 where
  pub good : GoodImage image
  pub fits : at + (length image - rule_offset Transaction image) + length (joined (names_at list starts)) ≤ length room
  pub each : NamesAt list starts

-- what is known where the new image is written
pub record Writes (image list starts : List ℕ) (size owns : ℕ) (room : List ℕ) : Type 0 where
  pub good : GoodImage image
  pub names : names_at list starts ≡ added image list
  pub each : NamesAt list starts
  pub sized : size ≡ new_length image list
  pub owned : owns ≡ length (new_owns image list)
  pub few : owns ≤ 256
  pub small : size ≤ 65536
  pub fits : size ≤ length room
