-- The shape of a slot, table by table: what the loops find.
use mathlib.Core.Path.{◌≡◌, refl, sym, ◌∙◌}
use mathlib.Core.Bool.{Bool, true, false, not, ◌&&◌}
use mathlib.Core.List.{List, [], ◌∷◌}
use Prim.Native.Nat.{ℕ, ◌+◌, ◌-◌, ◌*◌, ◌≤◌, ◌<◌}
use native.Mathlib.Omega.{arith}
use native.Mathlib.Nat.{mul-le-mul_left}
use lib.Dec.{eqb}
use lib.ListN.{length, take, drop, get_or, length-take, length-drop}
use lib.Seq.{drop-drop, length-take-le, take-take}
use mir.Syntax.{w64}
use mir.Val.{Fits}
use borrow.Author.Rules.{rules}
use borrow.Author.Tests.{le-leb, lt-leb, eq-eqb, not-true, not-false}
use Rattle.wire.specs.Bytes.{all_zero, same, front, pad}
use Rattle.wire.specs.Words.{word_at}
use Rattle.wire.specs.declared.Order.TheVariants.{Little}
use Rattle.wire.proofs.Parts.{drop_taken}
use Rattle.tables.specs.Tables.{plain_cells}
use Rattle.tables.proofs.Same.{same_pad, plain_next, plain_end}
use Rattle.policy.specs.Names.{name_limit, cell_of, name_of, name_width}
use Rattle.memory.specs.Layout.{memory_length, slot_start, names_at, first_name, name_room, taken_at, head_room, head_at, first_byte, slot_length}
use Rattle.memory.proofs.Frame.{cell_length}
use Rattle.slots.proofs.Cells.{cell_front}
use Rattle.audit.specs.Tests.{plain_cell, table_test, cells_test, head_test}

-- ---- a product in bounds

pub scale_low : (w n k : ℕ) → n ≤ k → w * n ≤ w * k
scale_low w n k h = mul-le-mul_left w h

pub scale_fits : (w n k : ℕ) → n ≤ k → w * k ≤ head_room → Fits w64 (w * n)
scale_fits w n k h l = record { fits = omega (arith, mul-le-mul_left w h) }

pub ruleset scaling = (scale_low, scale_fits, rules)

-- ---- a table

module _ (m : List ℕ) (at w k n : ℕ) (e : n ≡ word_at Little m at) where
  pub table_many : k < n → false ≡ table_test m at w k
  unfolding table_test
  table_many h = rw (← e, lt-leb n k h)

  pub table_zero : n ≤ k → (s t : ℕ) (r : Bool) → s ≡ w * n → t ≡ w * k → r ≡ all_zero (take (at + 4 + t - (at + 4 + s)) (drop (at + 4 + s) m))
      → r ≡ table_test m at w k
  unfolding table_test
  table_zero h s t r p q z =
      let d : at + 4 + t - (at + 4 + s) ≡ t - s = omega arith in
      z ∙ rw (← e, le-leb n k h, d, p, q)

pub ruleset tables = (table_many, table_zero, rules)

-- ---- the head

module _ (m : List ℕ) (i n : ℕ) (e : n ≡ word_at Little m (slot_start i + head_at)) where
  pub head_many : head_room < n → false ≡ head_test m i
  unfolding head_test
  head_many h = rw (← e, lt-leb n head_room h)

  pub head_zero : n ≤ head_room → (r : Bool)
      → r ≡ all_zero (take (slot_start i + slot_length - (slot_start i + first_byte + n)) (drop (slot_start i + first_byte + n) m))
      → r ≡ head_test m i
  unfolding head_test
  head_zero h r z = z ∙ rw (← e, le-leb n head_room h)

pub ruleset heads = (head_many, head_zero, rules)

-- ---- a name's cell

module _ (m : List ℕ) (a b : ℕ) (e : b ≡ get_or m a 0) (s : b < 256) (l : a + name_width ≤ length m) where
  front_is : front (take name_width (drop a m)) ≡ b
  front_is = cell_front m a ∙ sym e

  rest : drop 1 (take name_width (drop a m)) ≡ take name_limit (drop (a + 1) m)
  rest = rw (drop_taken 1 name_width (drop a m), drop-drop 1 a m)

  rest_length_lem : length (take name_limit (drop (a + 1) m)) ≡ name_limit
  rest_length_lem = length-take-le name_limit (drop (a + 1) m) (omega (arith, length-drop (a + 1) m))

  name_length : length (take b (take name_limit (drop (a + 1) m))) ≡ b
  name_length = length-take-le b (take name_limit (drop (a + 1) m)) (omega (arith, rest_length_lem))

  cell_split : (c : List ℕ) → 1 ≤ length c → same (cell_of (name_of c)) c ≡ eqb (length (name_of c)) (front c) && same (pad name_limit (name_of c)) (drop 1 c)
  unfolding cell_of same
  cell_split [] h = absurd (omega arith)
  cell_split (x ∷ c) h = refl

  pub cell_plain : same (cell_of (name_of (take name_width (drop a m)))) (take name_width (drop a m))
      ≡ all_zero (take (a + name_width - (a + 1 + b)) (drop (a + 1 + b) m))
  cell_plain =
      let k : a + name_width - (a + 1 + b) ≡ name_limit - b = omega arith in
      cell_split (take name_width (drop a m)) (rw (length-take name_width (drop a m)) (omega (arith, length-drop a m)))
      ∙ rw (
        front_is,
        rest,
        name_length,
        eq-eqb b b refl,
        same_pad b name_limit (take name_limit (drop (a + 1) m)) rest_length_lem,
        k,
        drop_taken b name_limit (drop (a + 1) m),
        drop-drop b (a + 1) m,
      )

pub cell_is : (m : List ℕ) (i j b : ℕ) (r : Bool) → length m ≡ memory_length → i < 16 → j < name_room → b ≡ get_or m (slot_start i + first_name + name_width * j) 0
    → b < 256
    → r ≡ all_zero (take (slot_start i + first_name + name_width * j + name_width - (slot_start i + first_name + name_width * j + 1 + b))
    (drop (slot_start i + first_name + name_width * j + 1 + b) m))
    → r ≡ plain_cell m i j
unfolding plain_cell
cell_is m i j b r l h k e s z = z ∙ sym (cell_plain m (slot_start i + first_name + name_width * j) b e s (omega arith))

pub ruleset cell_tests = (cell_is, rules)

-- ---- the cells of a slot, of which j are tested

abbrev region : List ℕ → ℕ → List ℕ
region m i = take (name_width * name_room) (drop (slot_start i + first_name) m)

-- the loop's invariant: the cells from j on decide what the test says
pub record CellsInvariant (m : List ℕ) (i n j : ℕ) : Type 0 where
  pub few : n ≤ name_room
  pub inside : j ≤ n
  pub counted : n ≡ word_at Little m (slot_start i + names_at)
  pub left : cells_test m i ≡ plain_cells cell_of name_of name_width (n - j) (drop (name_width * j) (region m i))

pub cells_many : (m : List ℕ) (i n : ℕ) → n ≡ word_at Little m (slot_start i + names_at) → name_room < n → false ≡ cells_test m i
unfolding cells_test
cells_many m i n e h = rw (← e, lt-leb n name_room h)

pub cells_begins : {m : List ℕ} {i n : ℕ} → n ≡ word_at Little m (slot_start i + names_at) → n ≤ name_room → CellsInvariant m i n 0
unfolding cells_test
cells_begins {m} {i} {n} e h =
    let k : n - 0 ≡ n = omega arith in
    record { few = h; inside = omega arith; counted = e; left = rw (← e, le-leb n name_room h, k) }

module _ {m : List ℕ} {i n j : ℕ} (l : CellsInvariant m i n j) where
  module _ (h : j < n) {r : Bool} (e : r ≡ plain_cell m i j) where
    cell_at : take name_width (drop (name_width * j) (region m i)) ≡ take name_width (drop (slot_start i + first_name + name_width * j) m)
    cell_at =
        rw (
          drop_taken (name_width * j) (name_width * name_room) (drop (slot_start i + first_name) m),
          drop-drop (name_width * j) (slot_start i + first_name) m,
        )
        (take-take name_width ((name_width * name_room) - name_width * j) (drop (slot_start i + first_name + name_width * j) m) (omega arith))

    step : plain_cells cell_of name_of name_width (n - j) (drop (name_width * j) (region m i))
        ≡ plain_cell m i j && plain_cells cell_of name_of name_width (n - (j + 1)) (drop (name_width * (j + 1)) (region m i))
    unfolding plain_cell
    step =
        let k : name_width * j + name_width ≡ name_width * (j + 1) = omega arith in
        plain_next name_width cell_of cell_length name_of n j (region m i) h ∙ rw (cell_at, k)

    pub cells_more : not r ≡ false → CellsInvariant m i n (j + 1)
    cells_more t =
        record { few = l.few; inside = omega arith; counted = l.counted; left = l.left ∙ step ∙ rw (← e, not-false r t) }

    pub cells_stops : not r ≡ true → false ≡ cells_test m i
    cells_stops t = sym (l.left ∙ step ∙ rw (← e, not-true r t))

  pub cells_ends : n ≤ j → (r : Bool)
      → r ≡ all_zero (take (slot_start i + taken_at - (slot_start i + first_name + name_width * j)) (drop (slot_start i + first_name + name_width * j) m))
      → r ≡ cells_test m i
  cells_ends h r z =
      let k : slot_start i + taken_at - (slot_start i + first_name + name_width * j) ≡ (name_width * name_room) - name_width * j = omega arith in
      z
      ∙ sym (l.left
      ∙ plain_end name_width cell_of cell_length name_of n j (region m i) h
      ∙ rw (
        drop_taken (name_width * j) (name_width * name_room) (drop (slot_start i + first_name) m),
        drop-drop (name_width * j) (slot_start i + first_name) m,
        k,
      ))

pub ruleset cells = (cells_many, cells_begins, cells_more, cells_stops, cells_ends, rules)
