-- Numbers of four bytes in either byte order, of eight in one, and alignment.
use Rattle.std.specs.Prelude.{List, [], ◌∷◌, ◌++◌, ℕ, ◌+◌, ◌*◌, ◌/◌, ◌%◌, get_or}
use Rattle.wire.specs.declared.Order.{Order}
use Rattle.wire.specs.declared.Order.TheVariants.{Little, Big}

-- four bytes as a number, the lowest first
abbrev pub joined : ℕ → ℕ → ℕ → ℕ → ℕ
joined a b c d = a + 256 * b + 65536 * c + 16777216 * d

-- the number in the four bytes at `at`; big-endian has the highest first (rule 2.1)
unfoldable pub word_at : Order → List ℕ → ℕ → ℕ
word_at Little s at = joined (get_or s at 0) (get_or s (at + 1) 0) (get_or s (at + 2) 0) (get_or s (at + 3) 0)
word_at Big s at = joined (get_or s (at + 3) 0) (get_or s (at + 2) 0) (get_or s (at + 1) 0) (get_or s at 0)

-- the number in the eight bytes at `at`, the lowest first (rule 10.2)
unfoldable pub long_at : List ℕ → ℕ → ℕ
long_at s at = word_at Little s at + 4294967296 * word_at Little s (at + 4)

-- the little-endian bytes of a number below 2 ^ 32
unfoldable pub word_bytes : ℕ → List ℕ
word_bytes n = n % 256 ∷ n / 256 % 256 ∷ n / 256 / 256 % 256 ∷ n / 256 / 256 / 256 % 256 ∷ []

-- the little-endian bytes of a number below 2 ^ 64 (rule 10.2)
unfoldable pub long_bytes : ℕ → List ℕ
long_bytes n = word_bytes (n % 4294967296) ++ word_bytes (n / 4294967296)

-- the least multiple of 8 that is not below n: where padding ends (rule 2.3)
abbrev pub round_up_8 : ℕ → ℕ
round_up_8 n = (n + 7) / 8 * 8
