-- `policy::bus_cell` meets its contract: behind the length stands the name that is copied, and then zeros.
use mathlib.Core.Path.{◌≡◌}
use mathlib.Core.List.{List, ◌∷◌, ◌++◌}
use Prim.Native.Nat.{ℕ}
use lib.ListN.{replicate}
use Rattle.wire.specs.Bytes.{pad}
use Rattle.policy.specs.Names.{cell_of, bus_name}
use Rattle.policy.proofs.bus_cell.Goals as goal

name-copied : {y : List ℕ} → y ≡ bus_name → 20 ∷ (y ++ replicate 235 0) ≡ cell_of bus_name
unfolding cell_of pad
name-copied e = rw e

pub returns : goal.returns
returns c = search name-copied
