-- A name that a peer may own is a valid well-known one that is not the bus's.
use mathlib.Core.Path.{◌≡◌}
use mathlib.Core.Bool.{Bool, not, ◌&&◌}
use mathlib.Core.List.{List}
use Prim.Native.Nat.{ℕ}
use borrow.Author.Rules.{rules}
use Rattle.wire.specs.Bytes.{same}
use Rattle.names.specs.Names.{valid_name}
use Rattle.names.specs.declared.Form.TheVariants.{WellKnown}
use Rattle.policy.specs.Names.{bus_name}
use Rattle.rules.specs.Addresses.{ownable}

pub is_ownable : (name : List ℕ) (v e : Bool) → v ≡ valid_name WellKnown name → e ≡ same name bus_name → v && not e ≡ ownable name
unfolding valid_name
is_ownable name v e p q = rw (p, q)

pub ruleset ownables = (is_ownable, rules)
