-- The names of a slot, one after the other.
use mathlib.Core.Path.{◌≡◌, refl, sym, ◌∙◌}
use mathlib.Core.Bool.{Bool, true, false, not, ◌&&◌, and-true, and-false}
use mathlib.Core.List.{List}
use Prim.Native.Nat.{ℕ, ◌+◌, ◌*◌, ◌≤◌, ◌<◌}
use native.Mathlib.Omega.{arith}
use Rattle.std.proofs.Common.{Option, is_some}
use lib.ListN.{length, drop, get_or, drop_of_length-le}
use borrow.Author.Rules.{rules}
use borrow.Author.Tests.{not-true, not-false}
use Rattle.wire.specs.Lists.{distinct}
use Rattle.policy.specs.Names.{owns, name_width}
use Rattle.rules.specs.Addresses.{ownable}
use Rattle.rules.specs.Calls.{is_owner}
use Rattle.memory.specs.Layout.{slot_start, first_name, name_room}
use Rattle.memory.specs.Encoding.{state_of}
use Rattle.memory.specs.Good.{good_names}
use Rattle.memory.specs.Places.{FoundSlot}
use Rattle.slots.specs.Slots.{peer_at, name_at}
use Rattle.slots.proofs.Cells.{names_next}
use Rattle.audit.specs.Tests.{name_test}
use Rattle.audit.proofs.Found.{found_any, not_not}

-- ---- name j: x is its text

module _ (m : List ℕ) (i j : ℕ) (x : List ℕ) (is : x ≡ name_at m i j) where
  module _ (o : Bool) (p : o ≡ ownable x) where
    pub name_bad : not o ≡ true → false ≡ name_test m i j
    unfolding name_test
    name_bad t = rw (← is, ← p, not-true o t)

    module _ (w : Bool) (q : w ≡ owns (drop (j + 1) (peer_at m i).names) x) where
      pub name_twice : w ≡ true → false ≡ name_test m i j
      unfolding name_test
      name_twice t = rw (← is, ← q, t, and-false)

      pub name_good : not o ≡ false → w ≡ false → (r : Option ℕ) → FoundSlot (is_owner x) m (i + 1) r → {z : Bool} → is_some r ≡ not z → z ≡ name_test m i j
      unfolding name_test
      name_good s t r f {z} e =
          rw (← is, ← p, not-false o s, ← q, t, found_any (is_owner x) m (i + 1) r f, e, and-true) (not_not z)

pub ruleset name_tests = (name_bad, name_twice, name_good, rules)

-- ---- the names of a slot, of which j are tested

pub record Naming (m : List ℕ) (i count j : ℕ) : Type 0 where
  pub few : count ≤ name_room
  pub counted : count ≡ length (peer_at m i).names
  pub left : good_names (peer_at m i).names (drop (i + 1) (state_of m).slots) ≡ good_names (drop j (peer_at m i).names) (drop (i + 1) (state_of m).slots)

pub naming_begins : {m : List ℕ} {i count : ℕ} → count ≡ length (peer_at m i).names → count ≤ name_room → Naming m i count 0
naming_begins e h = record { few = h; counted = e; left = refl }

module _ {m : List ℕ} {i count j : ℕ} (l : Naming m i count j) where
  module _ (h : j < count) (b : get_or m (slot_start i + first_name + name_width * j) 0 < 256) {r : Bool} (e : r ≡ name_test m i j) where
    -- name j, and those after it
    step : good_names (drop j (peer_at m i).names) (drop (i + 1) (state_of m).slots)
        ≡ name_test m i j && good_names (drop (j + 1) (peer_at m i).names) (drop (i + 1) (state_of m).slots)
    unfolding good_names distinct owns name_test
    step = rw (names_next m i j (omega (arith, l.counted)) b)

    pub naming_more : not r ≡ false → Naming m i count (j + 1)
    naming_more t = record { few = l.few; counted = l.counted; left = l.left ∙ step ∙ rw (← e, not-false r t) }

    pub naming_stops : not r ≡ true → false ≡ good_names (peer_at m i).names (drop (i + 1) (state_of m).slots)
    naming_stops t = sym (l.left ∙ step ∙ rw (← e, not-true r t))

  pub naming_ends : count ≤ j → true ≡ good_names (peer_at m i).names (drop (i + 1) (state_of m).slots)
  unfolding good_names distinct
  naming_ends h = sym (l.left ∙ rw (drop_of_length-le (peer_at m i).names {i = j} (omega (arith, l.counted))))

pub ruleset naming = (naming_begins, naming_more, naming_stops, naming_ends, rules)
