-- A name as own writes it.
use Rattle.std.specs.Prelude.{◌≡◌, List, ◌∷◌, ℕ, ◌+◌, ◌≤◌, length}
use Rattle.memory.specs.Layout.{memory_length}
use Rattle.policy.specs.Names.{name_limit, name_width}

-- a name behind its length
unfoldable pub name_bytes : List ℕ → List ℕ
name_bytes name = length name ∷ name

-- a name has room at `at`
pub record Naming (m : List ℕ) (at : ℕ) (name : List ℕ) : Type 0 where
  pub sized : length m ≡ memory_length
  pub short : length name ≤ name_limit
  pub room : at + name_width ≤ memory_length
