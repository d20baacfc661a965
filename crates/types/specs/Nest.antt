-- How deep arrays and parentheses are nested in a type, against the signature rule (rule 4.4).
use Rattle.std.specs.Prelude.{◌≡◌, Bool, true, false, ◌&&◌, List, ℕ, ◌+◌, ◌-◌, ◌*◌, ◌≤◌, ◌<◌, leb, length, drop, get_or}
use Rattle.std.proofs.Math.Option.{Option, none, some}
use Rattle.wire.specs.Bytes.{byte}
use Rattle.signature.specs.Signature.{Row, one, row}
use Rattle.types.specs.Letters.{closes}
use Rattle.types.specs.Types.{behind}
use Rattle.types.specs.Promises.{EndAt, ClosedAt, EndsFrom}

-- what is left, where all is `well`
abbrev pub kept : Bool → Option (List ℕ) → Option (List ℕ)
kept true o = o
kept false o = none

-- what is left behind a row of types, however many they are
abbrev pub rest_of : Option Row → Option (List ℕ)
rest_of none = none
rest_of (some r) = some r.1

-- where a and p are open, so many arrays and parentheses more may be opened in one another (rule 4.4)
unfoldable pub fits : ℕ → ℕ → ℕ → ℕ → Bool
fits a p arrays parens = leb arrays (32 - a) && leb parens (32 - p)

-- the type in front of s opens so many arrays and parentheses in one another; 33 arrays, which never fit, where it is not complete
pub record Nested (s : List ℕ) (arrays parens : ℕ) : Type 0 where
  pub is : (fuel a p : ℕ) → 2 * length s ≤ fuel → one fuel a p s ≡ kept (fits a p arrays parens) (some (behind 0 s))

-- the types in a row at i end at `to`, where a closing byte stands or s ends, and open so many arrays and parentheses in one another
pub record RowAt (s : List ℕ) (i to arrays parens : ℕ) : Type 0 where
  pub low : i ≤ to
  pub high : to ≤ length s
  pub left : behind 1 (drop i s) ≡ behind 1 (drop to s)
  pub first : i < to → closes (get_or s i 0) ≡ false
  pub end : to < length s → closes (get_or s to 0) ≡ true
  pub is : (fuel a p : ℕ) → 2 * length (drop i s) + 1 ≤ fuel → rest_of (row fuel a p (drop i s)) ≡ kept (fits a p arrays parens) (some (drop to s))

-- an array of dict entries begins at i
pub record EntryAt (s : List ℕ) (i : ℕ) : Type 0 where
  pub inside : i + 1 < length s
  pub array : get_or s i 0 ≡ byte "a"
  pub entry : get_or s (i + 1) 0 ≡ byte "{"

-- what the tables are to hold for the byte at i
pub record NestAt (s : List ℕ) (i to arrays parens : ℕ) : Type 0 where
  pub type : closes (get_or s i 0) ≡ false → EndAt s i to
  pub run : closes (get_or s i 0) ≡ true → ClosedAt s i to
  pub nest : Nested (drop i s) arrays parens

-- the tables hold it from `from` on
pub record NestsFrom (s ends arrays parens : List ℕ) (from : ℕ) : Type 0 where
  pub few : length s ≤ 255
  pub table : EndsFrom s ends from
  pub each : (i : ℕ) → from ≤ i → i ≤ 255 → Nested (drop i s) (get_or arrays i 0) (get_or parens i 0)

-- they do behind i, where a byte stands
pub record NestsBehind (s ends arrays parens : List ℕ) (i : ℕ) : Type 0 where
  pub here : i < length s
  pub nests : NestsFrom s ends arrays parens (i + 1)
