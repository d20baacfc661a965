-- A peer's names as a region of memory: the cells in use, as the policy's functions take them.
use mathlib.Core.List.{List, map, ◌∷◌}
use mathlib.Core.Path.{◌≡◌, refl, sym, ap, ap₂, ◌∙◌}
use Prim.Native.Nat.{ℕ, zero, suc, ◌+◌, ◌*◌, ◌/◌, ◌≤◌, min, ◌<◌}
use native.Mathlib.Omega.{arith}
use native.Mathlib.Nat.{mul-div_cancel_left, min-eq_left}
use lib.ListN.{length, get_or, take, drop, length-drop}
use lib.Seq.{take-take, get_or-take, drop-drop, length-take-le}
use Rattle.wire.specs.Bytes.{Below, front}
use Rattle.wire.specs.Words.{word_at}
use Rattle.wire.specs.declared.Order.TheVariants.{Little}
use Rattle.tables.specs.Tables.{parts, table_of}
use Rattle.wire.proofs.Parts.{drop_take}
use Rattle.tables.proofs.Words.{word_front, bytes_take, bytes_drop}
use Rattle.tables.proofs.Cells.{parts_take}
use Rattle.policy.specs.Names.{name_limit, name_of, cell_names, names_in, name_width}
use Rattle.memory.specs.Layout.{names_at, first_name, taken_at, name_room}
use Rattle.memory.specs.Places.{peer_from}

-- a name is read no further than its cell
pub name_take : (s : List ℕ) → get_or s 0 0 < 256 → name_of (take name_width s) ≡ name_of s
name_take s h =
    rw (get_or-take name_width s 0 0 (omega arith), drop_take 1 name_limit s) (take-take (front s) name_limit (drop 1 s) (omega arith))

names_cells : (n : ℕ) (d : List ℕ) → Below 256 d → cell_names n d ≡ map name_of (parts name_width n d)
unfolding cell_names parts
names_cells zero d b = refl
names_cells (suc n) d b = ap₂ ◌∷◌ (sym (name_take d (b 0))) (names_cells n (drop name_width d) (bytes_drop name_width d b))

-- the n cells in use, n being the count
pub names_in_lem : (m : List ℕ) (a n : ℕ) → Below 256 m → a + taken_at ≤ length m → n ≡ word_at Little m (a + names_at) → n ≤ name_room
    → names_in (take (name_width * n) (drop (a + first_name) m)) ≡ (peer_from m a).names
unfolding names_in table_of
names_in_lem m a n b l e h =
    let d = drop (a + first_name) m in
    let s = take (name_width * n) d in
    let k : length s ≡ name_width * n = length-take-le (name_width * n) d (omega (arith, length-drop (a + first_name) m)) in
    let q : length s / name_width ≡ n = ap (λ (z : ℕ). z / name_width) k ∙ mul-div_cancel_left n (omega arith) in
    let c : min (word_at Little m (a + names_at)) name_room ≡ n = rw (← e) (min-eq_left h) in
    let f : a + names_at + 4 ≡ a + first_name = omega arith in
    let r : map name_of (parts name_width (min (word_at Little (drop (a + names_at) m) 0) name_room) (drop 4 (drop (a + names_at) m)))
    ≡ map name_of (parts name_width n d)
    = rw (word_front m (a + names_at), c, drop-drop 4 (a + names_at) m, f) in
    rw q
    (names_cells n s (bytes_take (name_width * n) d (bytes_drop (a + first_name) m b))
    ∙ ap (map name_of) (parts_take name_width n (name_width * n) d (omega arith))
    ∙ sym r)
