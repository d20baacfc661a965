-- Who is meant by a destination: what the functions that find out require and ensure, in the terms of the rules' addresses.
use Rattle.std.specs.Prelude.{◌≡◌, List, ℕ, ◌+◌, ◌≤◌, length}
use Rattle.header.specs.declared.Place.{Place}
use Rattle.policy.specs.Matching.{field_of}
use Rattle.rules.specs.Addresses as rules
use Rattle.memory.specs.Encoding.{state_of}
use Rattle.memory.specs.Sound.{Held}
use Rattle.slots.specs.Slots.{Seated}
use Rattle.addresses.specs.declared.Destination.{Destination}
use Rattle.addresses.specs.declared.Destination.TheVariants.{Absent, Bus, At, Unknown}

-- the rules' address of each case
abbrev pub address_of : Destination → rules.Address
address_of Absent = rules.undirected
address_of Bus = rules.bus
address_of (At j) = rules.slot j
address_of Unknown = rules.unknown

-- a slot that is addressed is a peer's
abbrev pub Stands : List ℕ → Destination → Type 0
Stands m Absent = Unit {0}
Stands m Bus = Unit {0}
Stands m (At j) = Seated m j
Stands m Unknown = Unit {0}

-- a destination is asked for: its text lies inside the head
pub record Seeks (m head : List ℕ) (p : Place) : Type 0 where
  pub held : Held m
  pub inside : p.at + p.len ≤ length head

-- who is meant by the field at a place of a head
pub record Resolved (m head : List ℕ) (p : Place) (r : Destination) : Type 0 where
  pub is : address_of r ≡ rules.resolve (state_of m).slots (field_of head p)
  pub stands : Stands m r
