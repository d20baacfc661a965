-- Owned names as a region of bytes: cells of one width in a row, each a length byte, the name, and zeros (rule 10.2).
use Rattle.std.specs.Prelude.{Bool, List, [], ◌∷◌, ℕ, zero, suc, ◌+◌, ◌/◌, length, take, drop}
use Rattle.wire.specs.Bytes.{bytes, front, same, pad}
use Rattle.wire.specs.Lists.{any}
pub use Rattle.names.specs.Names.{name_limit}

-- a length byte, and room for the longest name
abbrev pub name_width : ℕ
name_width = 1 + name_limit

-- the name of the cell in front
abbrev pub name_of : List ℕ → List ℕ
name_of s = take (front s) (drop 1 s)

-- the names of the first n cells
unfoldable pub cell_names : ℕ → List ℕ → List (List ℕ)
cell_names zero s = []
cell_names (suc n) s = name_of s ∷ cell_names n (drop name_width s)

unfoldable pub names_in : List ℕ → List (List ℕ)
names_in s = cell_names (length s / name_width) s

-- the cell of a name
unfoldable pub cell_of : List ℕ → List ℕ
cell_of name = length name ∷ pad name_limit name

-- the one name of the bus (rule 7.3)
abbrev pub bus_name : List ℕ
bus_name = bytes "org.freedesktop.DBus"

-- the name is one of those (rule 6.6)
unfoldable pub owns : List (List ℕ) → List ℕ → Bool
owns names name = any (λ x. same x name) names
