-- The names of a list, by where their length bytes stand.
use Rattle.std.specs.Prelude.{◌≡◌, List, ◌∷◌, ◌++◌, map, ℕ, ◌+◌, ◌≤◌, ◌<◌, length, get_or, take, drop}

abbrev pub name_at : List ℕ → ℕ → List ℕ
name_at list at = take (get_or list at 0) (drop (at + 1) list)

-- the name at `at` is whole
pub record NameAt (list : List ℕ) (at : ℕ) : Type 0 where
  pub ends : at + 1 + get_or list at 0 ≤ length list

-- each of the names is
abbrev pub NamesAt : List ℕ → List ℕ → Type 0
NamesAt list starts = (k : ℕ) → k < length starts → NameAt list (get_or starts k 0)

abbrev pub names_at : List ℕ → List ℕ → List (List ℕ)
names_at list starts = map (name_at list) starts

-- the name stands first, behind its length byte, and the rest behind the name
pub record First (list name rest : List ℕ) : Type 0 where
  pub is : list ≡ length name ∷ (name ++ rest)
