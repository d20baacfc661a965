-- Who is meant by a destination.
use Rattle.std.specs.Prelude.{Bool, true, false, cond, ◌&&◌, ◌||◌, not, List, [], ◌∷◌, ◌++◌, ℕ, zero, suc, ◌+◌, ◌/◌, ◌%◌, eqb, ltb, length}
use Rattle.std.proofs.Math.Option.{Option, none, some}
use Rattle.wire.specs.Bytes.{byte, bytes, same}
use Rattle.names.specs.Names.{well_known}
use Rattle.policy.specs.Names.{bus_name, owns}
use Rattle.rules.specs.State.{Slot, free, peer, first_by}

-- a name that a peer may own: well-known, and not the bus's (rule 8.4)
abbrev pub ownable : List ℕ → Bool
ownable name = well_known name && not (same name bus_name)

-- the decimal digits of n before `after`, the first of them not 0; ten are enough for a number of 32 bits (rule 7.2)
unfoldable pub digits : ℕ → ℕ → List ℕ → List ℕ
digits zero n after = after
digits (suc fuel) n after = elim (eqb n 0) [ true ↦ after | false ↦ digits fuel (n / 10) ((byte "0" + n % 10) ∷ after) ]

-- the unique name of the peer with number n (rule 7.2)
unfoldable pub unique_name : ℕ → List ℕ
unique_name n = bytes ":1." ++ digits 10 n []

-- the slot's peer has that unique name, byte for byte, or owns that name (rule 7.3)
unfoldable pub answers_to : {S : Type 0} → List ℕ → Slot S → Bool
answers_to text free = false
answers_to text (peer p) = same text (unique_name p.number) || owns p.names text

-- where a message goes: to no destination, to the bus, to the peer of a slot, or to nobody
pub data Address : Type 0 where
  undirected : Address
  bus : Address
  slot : ℕ → Address
  unknown : Address

-- the slot that was found, where there is one
abbrev pub found : ℕ → ℕ → Address
found n i = cond (ltb i n) (slot i) unknown

-- the bus's name is tested first, since no peer can own it (rule 7.3)
unfoldable pub resolve : {S : Type 0} → List (Slot S) → Option (List ℕ) → Address
resolve slots none = undirected
resolve slots (some text) = cond (same text bus_name) bus (found (length slots) (first_by (answers_to text) slots))
