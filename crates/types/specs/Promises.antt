-- What a table of ends holds, in the terms of the definitions.
use Rattle.std.specs.Prelude.{◌≡◌, Bool, true, false, List, ℕ, ◌≤◌, ◌<◌, length, drop, get_or}
use Rattle.types.specs.Letters.{opens, closes}
use Rattle.types.specs.Types.{behind, single}

-- the type at i ends at `to`
pub record EndAt (s : List ℕ) (i to : ℕ) : Type 0 where
  pub is : drop to s ≡ behind 0 (drop i s)
  pub on : i < to
  pub high : to ≤ length s

-- the closing bytes in a row at i end at `to`
pub record ClosedAt (s : List ℕ) (i to : ℕ) : Type 0 where
  pub on : i < to
  pub high : to ≤ length s
  pub all : (j : ℕ) → i ≤ j → j < to → closes (get_or s j 0) ≡ true
  pub end : closes (get_or s to 0) ≡ false

-- for each byte of s, from `from` on, the table says where the type ends that begins there, or where the closing bytes in a row end
pub record EndsFrom (s ends : List ℕ) (from : ℕ) : Type 0 where
  pub few : length s ≤ 255
  pub sized : length s ≤ length ends
  pub types : (i : ℕ) → from ≤ i → i < length s → closes (get_or s i 0) ≡ false → EndAt s i (get_or ends i 0)
  pub rows : (i : ℕ) → from ≤ i → i < length s → closes (get_or s i 0) ≡ true → ClosedAt s i (get_or ends i 0)

-- whether the signature is one complete type, and its table
pub record EndsOf (s ends : List ℕ) (r : Bool) : Type 0 where
  pub is : r ≡ single s
  pub table : EndsFrom s ends 0

-- opening bytes stand from i up to `to`
abbrev pub Opens : List ℕ → ℕ → ℕ → Type 0
Opens s i to = (j : ℕ) → i ≤ j → j < to → opens (get_or s j 0) ≡ true

-- opening bytes stand in a row from i to r
pub record OpenedAt (s : List ℕ) (i r : ℕ) : Type 0 where
  pub low : i ≤ r
  pub high : i ≤ length s → r ≤ length s
  pub all : Opens s i r

-- closing bytes stand in a row from i to r, none or more, and no other behind them
pub record ShutAt (s : List ℕ) (i r : ℕ) : Type 0 where
  pub low : i ≤ r
  pub high : i ≤ length s → r ≤ length s
  pub all : (j : ℕ) → i ≤ j → j < r → closes (get_or s j 0) ≡ true
  pub end : closes (get_or s r 0) ≡ false
