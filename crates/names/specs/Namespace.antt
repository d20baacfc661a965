-- A name under a prefix: `org.foobar` is not under `org.foo` (rule 3.8).
use Rattle.std.specs.Prelude.{Bool, true, false, ◌&&◌, ◌||◌, List, [], ◌∷◌, ◌++◌, ℕ, eqb}
use Rattle.wire.specs.Bytes.{bytes, same}

-- the first text is how the second starts (rule 3.8)
abbrev pub is_prefix : List ℕ → List ℕ → Bool
is_prefix [] ys = true
is_prefix (x ∷ xs) [] = false
is_prefix (x ∷ xs) (y ∷ ys) = eqb x y && is_prefix xs ys

-- the prefix itself, or more elements behind it (rule 3.8)
unfoldable pub in_namespace : List ℕ → List ℕ → Bool
in_namespace prefix name = same prefix name || is_prefix (prefix ++ bytes ".") name
