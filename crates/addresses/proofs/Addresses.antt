-- Who answers to a text, and where a message goes.
use Rattle.std.proofs.Common.{Some, None}
use mathlib.Core.Path.{◌≡◌, sym, ap, ◌∙◌}
use mathlib.Core.Bool.{Bool, true, false, false≢true}
use mathlib.Core.List.{List}
use Prim.Native.Nat.{ℕ, ◌+◌, ◌-◌, ◌<◌}
use lib.ListN.{take, drop}
use borrow.Author.Rules.{rules}
use borrow.Author.Tests.{lt-ltb, eq-eqb, ne_eqb}
use Rattle.wire.specs.Bytes.{same}
use Rattle.wire.proofs.Words.{cut_at}
use Rattle.header.specs.declared.Place.{Place}
use Rattle.policy.specs.Names.{bus_name, owns}
use Rattle.rules.specs.Addresses.{unique_name, answers_to, resolve}
use Rattle.rules.specs.Calls.{slot_at}
use Rattle.memory.specs.Encoding.{state_of}
use Rattle.memory.specs.Places.{number_at, FoundSlot}
use Rattle.memory.proofs.Reading.{sixteen, slot_free, slot_peer}
use Rattle.memory.proofs.Find.{found_first, found_passes}
use Rattle.slots.specs.Slots.{peer_at}
use Rattle.addresses.specs.declared.Destination.TheVariants.{Absent, Bus, At, Unknown}
use Rattle.addresses.specs.Destinations.{Seeks, Resolved}

-- ---- one slot

module _ (text m : List ℕ) (i : ℕ) (h : i < 16) (n : ℕ) (e : n ≡ number_at m i) where
  pub answers_free : n ≡ 0 → false ≡ answers_to text (slot_at (state_of m) i)
  unfolding answers_to
  answers_free z = rw (slot_free m i h (sym e ∙ z))

  module _ (z : n ≡ 0 → ⊥) {u : Bool} (q : u ≡ same text (unique_name n)) where
    pub answers_unique : u ≡ true → true ≡ answers_to text (slot_at (state_of m) i)
    unfolding answers_to
    answers_unique t = rw (slot_peer m i h (λ y. z (e ∙ y)), ← e, ← q, t)

    pub answers_name : u ≡ false → {r : Bool} → r ≡ owns (peer_at m i).names text → r ≡ answers_to text (slot_at (state_of m) i)
    unfolding answers_to
    answers_name t p = rw (slot_peer m i h (λ y. z (e ∙ y)), ← e, ← q, t) p

pub ruleset answering = (answers_free, answers_unique, answers_name, rules)

-- ---- the destination

-- who answers to a text is a peer
answers_some : (text m : List ℕ) (j : ℕ) → FoundSlot (answers_to text) m 0 (Some j) → number_at m j ≡ 0 → ⊥
unfolding answers_to
answers_some text m j f z = false≢true (ap (answers_to text) (sym (slot_free m j f.inside z)) ∙ found_passes (answers_to text) m 0 j f)

pub resolved_absent : (m head : List ℕ) (p : Place) → p.at ≡ 0 → Resolved m head p Absent
unfolding resolve
resolved_absent m head p e = record { is = rw (eq-eqb p.at 0 e); stands = tt }

module _ (m head : List ℕ) (p : Place) (z : p.at ≡ 0 → ⊥) where
  -- the text that the code lends
  abbrev text : List ℕ
  text = take (p.at + p.len - p.at) (drop p.at head)

  text_is : take p.len (drop p.at head) ≡ text
  text_is = sym (cut_at p.at p.len head)

  module _ {b : Bool} (q : b ≡ same text bus_name) where
    pub resolved_bus : b ≡ true → Resolved m head p Bus
    unfolding resolve
    resolved_bus t = record { is = rw (ne_eqb p.at 0 z, text_is, ← q, t); stands = tt }

    module _ (t : b ≡ false) where
      pub resolved_slot : {j : ℕ} → FoundSlot (answers_to text) m 0 (Some j) → Seeks m head p → Resolved m head p (At j)
      unfolding resolve
      resolved_slot {j} f s =
          record {
            is = rw (ne_eqb p.at 0 z, text_is, ← q, t, found_first (answers_to text) m (Some j) f, sixteen m, lt-ltb j 16 f.inside);
            stands = record { held = s.held; sized = s.held.sized; below = f.inside; some = answers_some text m j f };
          }

      pub resolved_nobody : FoundSlot (answers_to text) m 0 None → Resolved m head p Unknown
      unfolding resolve
      resolved_nobody f = record { is = rw (ne_eqb p.at 0 z, text_is, ← q, t, found_first (answers_to text) m None f, sixteen m); stands = tt }

pub ruleset resolving = (resolved_absent, resolved_bus, resolved_slot, resolved_nobody, rules)
