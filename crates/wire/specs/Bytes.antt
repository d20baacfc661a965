-- Texts as bytes, and tests of runs of bytes.
use Rattle.std.specs.Prelude.{Bool, true, false, ◌&&◌, ◌||◌, List, [], ◌∷◌, ◌++◌, ℕ, ◌<◌, leb, eqb, get_or, take, replicate}
use Prim.Native.Char.{Char, code}
use Prim.Native.String.{String, [] as none, ◌∷◌ as ◌then◌}

-- a character's byte; of ASCII alone
abbrev pub byte : Char → ℕ
byte c = code c

abbrev pub bytes : String → List ℕ
bytes none = []
bytes (c then s) = code c ∷ bytes s

abbrev pub between : Char → Char → ℕ → Bool
between low high b = leb (code low) b && leb b (code high)

-- b is one of the characters, or `already`. A left fold, so that it computes to the tests that `(b == b'y') | (b == b'b') | ..` makes
abbrev pub one_of : Bool → String → ℕ → Bool
one_of already none b = already
one_of already (c then s) b = one_of (already || eqb b (code c)) s b

-- the byte in front, 0 where there is none
abbrev pub front : List ℕ → ℕ
front s = get_or s 0 0

-- each number of the list is below k, as those of a slice of bytes are below 256
abbrev pub Below : ℕ → List ℕ → Type 0
Below k s = (i : ℕ) → get_or s i 0 < k

-- each byte is zero
unfoldable pub all_zero : List ℕ → Bool
all_zero [] = true
all_zero (b ∷ s) = eqb b 0 && all_zero s

-- the two texts are equal
unfoldable pub same : List ℕ → List ℕ → Bool
same [] [] = true
same [] (y ∷ ys) = false
same (x ∷ xs) [] = false
same (x ∷ xs) (y ∷ ys) = eqb x y && same xs ys

-- the first n of xs, with zeros for those that it has not: n long whatever xs is
unfoldable pub pad : ℕ → List ℕ → List ℕ
pad n xs = take n (xs ++ replicate n 0)
