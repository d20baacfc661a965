-- A search for a name among those of a slot, and whose it is.
use mathlib.Core.Path.{◌≡◌, sym, ◌∙◌}
use mathlib.Core.Bool.{Bool, false}
use mathlib.Core.List.{List}
use Prim.Native.Nat.{ℕ, ◌+◌, ◌-◌, ◌<◌}
use lib.ListN.{take, drop, get_or}
use borrow.Author.Rules.{rules}
use Rattle.wire.proofs.Words.{cut_at}
use Rattle.policy.specs.Names.{owns}
use Rattle.rules.specs.Calls.{slot_at, is_owner}
use Rattle.memory.specs.Encoding.{state_of}
use Rattle.memory.specs.Places.{number_at}
use Rattle.memory.proofs.Reading.{slot_free, slot_peer}
use Rattle.slots.specs.Slots.{peer_at}
use Rattle.slots.proofs.Cells.{names_next, name_byte, before, owns_first}

-- name j as the code cuts it: its length is the byte at `at`
pub name_is : (m : List ℕ) (at b : ℕ) → b ≡ get_or m at 0 → take (at + 1 + b - (at + 1)) (drop (at + 1) m) ≡ take (get_or m at 0) (drop (at + 1) m)
name_is m at b e = cut_at (at + 1) b m ∙ rw e

pub ruleset naming = (name_is, name_byte, rules)

-- ---- whose

module _ (m : List ℕ) (i : ℕ) (h : i < 16) (name : List ℕ) (n : ℕ) (e : n ≡ number_at m i) where
  pub owner_none : n ≡ 0 → false ≡ is_owner name (slot_at (state_of m) i)
  owner_none z = rw (slot_free m i h (sym e ∙ z))

  pub owner_some : (n ≡ 0 → ⊥) → {r : Bool} → r ≡ owns (peer_at m i).names name → r ≡ is_owner name (slot_at (state_of m) i)
  owner_some z q = rw (slot_peer m i h (λ y. z (e ∙ y))) q

pub ruleset owners = (owner_none, owner_some, rules)
