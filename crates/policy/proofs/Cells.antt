-- Names in cells: a law for each way through the search of them, and what the bus's cell says.
use mathlib.Core.Path.{◌≡◌, refl, ◌∙◌}
use mathlib.Core.Bool.{Bool, true, false}
use mathlib.Core.List.{List, [], ◌∷◌}
use Prim.Native.Nat.{ℕ, suc, ◌+◌, ◌-◌, ◌/◌, ◌≤◌, ◌<◌}
use native.Mathlib.Omega.{arith}
use lib.ListN.{length, take, drop, get_or, length-drop}
use Rattle.wire.specs.Bytes.{same, pad}
use Rattle.wire.proofs.Words.{cut_at, rest_at}
use Rattle.policy.specs.Names.{name_width, name_of, cell_names, names_in, cell_of, bus_name, owns}

-- the part that the code cuts out of the cell in front is the cell's name
pub cell_name : (s : List ℕ) (n : ℕ) → n ≡ get_or s 0 0 → take (1 + n - 1) (drop 1 s) ≡ name_of s
cell_name s n e = cut_at 1 n s ∙ rw e

-- the name is one of those if it is one of those in the cells that are left
pub record Among (names name cells : List ℕ) : Type 0 where
  pub left : owns (names_in names) name ≡ owns (names_in cells) name

pub among_begins : {names name : List ℕ} → Among names name names
among_begins = record { left = refl }

-- the cell in front, and those behind it
names_split : (s : List ℕ) → name_width ≤ length s → names_in s ≡ name_of s ∷ names_in (drop name_width s)
unfolding names_in cell_names
names_split s h =
    let e : length s / name_width ≡ suc ((length s - name_width) / name_width) = omega arith in
    rw (length-drop name_width s, e)

names_end : (s : List ℕ) → length s < name_width → names_in s ≡ []
unfolding names_in cell_names
names_end s h = let e : length s / name_width ≡ 0 = omega arith in rw e

module _ {names name cells : List ℕ} (v : Among names name cells) where
  module _ (h : name_width ≤ length cells) {r : Bool} (e : r ≡ same (name_of cells) name) where
    pub among_here : r ≡ true → owns (names_in names) name ≡ true
    unfolding owns
    among_here t = v.left ∙ rw (names_split cells h, ← e, t)

    pub among_more : r ≡ false → Among names name (take (length cells - name_width) (drop name_width cells))
    unfolding owns
    among_more t = record { left = v.left ∙ rw (names_split cells h, ← e, t, rest_at name_width cells) }

  pub among_ends : length cells < name_width → owns (names_in names) name ≡ false
  unfolding owns
  among_ends h = v.left ∙ rw (names_end cells h)

-- the bus owns just its own name
pub bus_names : names_in (cell_of bus_name) ≡ bus_name ∷ []
unfolding names_in cell_names cell_of pad
bus_names = refl
