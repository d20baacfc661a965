-- What the inner functions ensure of a part of a text.
use Rattle.std.specs.Prelude.{◌≡◌, Bool, true, ◌&&◌, List, ℕ, ◌+◌, ◌≤◌, leb, length, drop, get_or}
use Rattle.wire.specs.Lists.{below}
use Rattle.utf8.specs.Utf8.{ascii, utf8_from, valid_utf_8}

-- how many bytes are tested together
abbrev pub block : ℕ
block = 16

-- the n bytes at `at` are ASCII
unfoldable pub asciis : List ℕ → ℕ → ℕ → Bool
asciis s at n = below (λ k. ascii (get_or s (at + k) 0)) n

-- the text from i on is valid; from behind its end on it is not
unfoldable pub valid_from : List ℕ → ℕ → Bool
valid_from s i = leb i (length s) && valid_utf_8 (drop i s)

-- r says whether the `due` bytes at `at` end a character: where they do, what is left behind them decides
pub record Tail (s : List ℕ) (at due low high : ℕ) (r : Bool) : Type 0 where
  pub inside : r ≡ true → at + due ≤ length s
  pub rest : utf8_from due low high (drop at s) ≡ r && valid_from s (at + due)

-- r is `to` or behind it, and what is left from there on decides
pub record Past (s : List ℕ) (from to r : ℕ) : Type 0 where
  pub far : to ≤ r
  pub rest : valid_from s from ≡ valid_from s r
