-- Tables: as long whatever they hold; what a table holds is read back; what the bytes of a table say, cell by cell.
use mathlib.Core.List.{List, [], ◌∷◌, ◌++◌, map, append_assoc}
use mathlib.Core.Path.{◌≡◌, ap, ◌∙◌}
use Prim.Native.Nat.{ℕ, ◌+◌, ◌-◌, ◌*◌, ◌≤◌, ◌<◌, min}
use native.Mathlib.Omega.{arith}
use native.Mathlib.Nat.{mul-le-mul_left, min-eq_left, min-le_right}
use native.Mathlib.Numerals.{add-one}
use lib.ListN.{length, get_or, take, drop, replicate, length-append, length-map, get_or-map}
use lib.Seq.{drop_at, drop-cons, drop-drop}
use Rattle.wire.specs.Bytes.{pad}
use Rattle.wire.specs.Words.{word_at, word_bytes}
use Rattle.wire.specs.declared.Order.TheVariants.{Little}
use Rattle.wire.proofs.Texts.{pad_length}
use Rattle.wire.proofs.Words.{word_length, word_again}
use Rattle.tables.specs.Tables.{cells, parts, table_bytes, table_of}
use Rattle.wire.proofs.Parts.{pad_fits, drop_taken}
use Rattle.tables.proofs.Words.{word_take}
use Rattle.tables.proofs.Cells.{parts_length, parts_at, parts_take, cells_length, cells_parts}

-- ---- the bytes of a table

pub table_length : {A : Type 0} (w k : ℕ) (enc : A → List ℕ) (xs : List A) → length (table_bytes w k enc xs) ≡ 4 + w * k
unfolding table_bytes
table_length w k enc xs =
    length-append (word_bytes (length xs)) (pad (w * k) (cells enc xs))
    ∙ omega (arith, word_length (length xs), pad_length (w * k) (cells enc xs))

-- the cells begin after the count
pub table_body : {A : Type 0} (w k : ℕ) (enc : A → List ℕ) (xs : List A) → drop 4 (table_bytes w k enc xs) ≡ pad (w * k) (cells enc xs)
unfolding table_bytes
table_body w k enc xs = drop_at (word_bytes (length xs)) (pad (w * k) (cells enc xs)) 4 (word_length (length xs))

-- the count is read off its bytes, whatever follows
pub table_count : {A : Type 0} (w k : ℕ) (enc : A → List ℕ) (xs : List A) (t : List ℕ) → length xs < 4294967296
    → word_at Little (table_bytes w k enc xs ++ t) 0 ≡ length xs
unfolding table_bytes
table_count w k enc xs t h =
    rw (append_assoc (word_bytes (length xs)) (pad (w * k) (cells enc xs)) t)
    (word_again (length xs) (pad (w * k) (cells enc xs) ++ t) h)

module _ {A : Type 0} (w k : ℕ) (enc : A → List ℕ) (sized : (x : A) → length (enc x) ≡ w) where
  -- the cells of what fits, and zeros
  pub table_spread : (xs : List A) → length xs ≤ k → pad (w * k) (cells enc xs) ≡ cells enc xs ++ replicate (w * k - w * length xs) 0
  table_spread xs h =
      let l : length (cells enc xs) ≡ w * length xs = cells_length w enc sized xs in
      pad_fits (w * k) (cells enc xs) (omega (arith, mul-le-mul_left w h))
      ∙ ap (λ (n : ℕ). cells enc xs ++ replicate (w * k - n) 0) l

  -- the cells stand first, whatever follows the table
  pub table_begins : (xs : List A) (t : List ℕ) → length xs ≤ k
      → drop 4 (table_bytes w k enc xs ++ t) ≡ cells enc xs ++ (replicate (w * k - w * length xs) 0 ++ t)
  unfolding table_bytes
  table_begins xs t h =
      rw (
        append_assoc (word_bytes (length xs)) (pad (w * k) (cells enc xs)) t,
        drop_at (word_bytes (length xs)) (pad (w * k) (cells enc xs) ++ t) 4 (word_length (length xs)),
        table_spread xs h,
      )
      (append_assoc (cells enc xs) (replicate (w * k - w * length xs) 0) t)

  -- what a table holds is read back
  pub table_again : (dec : List ℕ → A) (xs : List A) (t : List ℕ) → length xs ≤ k → length xs < 4294967296 → map dec (map enc xs) ≡ xs
      → table_of w k dec (table_bytes w k enc xs ++ t) ≡ xs
  unfolding table_of
  table_again dec xs t h l e =
      let m : min (length xs) k ≡ length xs = min-eq_left h in
      rw (table_count w k enc xs t l, m, table_begins xs t h, cells_parts w enc sized xs (replicate (w * k - w * length xs) 0 ++ t)) e

-- ---- what bytes say

pub table_many : {A : Type 0} (w k : ℕ) (dec : List ℕ → A) (b : List ℕ) → length (table_of w k dec b) ≡ min (word_at Little b 0) k
unfolding table_of
table_many w k dec b =
    length-map (parts w (min (word_at Little b 0) k) (drop 4 b)) dec ∙ parts_length w (min (word_at Little b 0) k) (drop 4 b)

-- thing i, by its cell
pub table_at : {A : Type 0} (w k : ℕ) (dec : List ℕ → A) (b : List ℕ) (i : ℕ) → i < length (table_of w k dec b)
    → get_or (table_of w k dec b) i (dec []) ≡ dec (take w (drop (4 + w * i) b))
unfolding table_of
table_at w k dec b i h =
    let n = min (word_at Little b 0) k in
    get_or-map dec (parts w n (drop 4 b)) i []
    ∙ ap dec (parts_at w n (drop 4 b) i (rw (table_many w k dec b) at h) ∙ ap (take w) (drop-drop (w * i) 4 b))

-- a table is read no further than it reaches
pub table_take : {A : Type 0} (w k : ℕ) (dec : List ℕ → A) (b : List ℕ) (j : ℕ) → 4 + w * k ≤ j
    → table_of w k dec (take j b) ≡ table_of w k dec b
unfolding table_of
table_take w k dec b j h =
    let n = min (word_at Little b 0) k in
    let l : w * n ≤ w * k = mul-le-mul_left w (min-le_right (word_at Little b 0) k) in
    rw (word_take b j 0 (omega arith), drop_taken 4 j b) (ap (map dec) (parts_take w n (j - 4) (drop 4 b) (omega arith)))

-- ---- what bytes say, from thing i on

pub table_next : {A : Type 0} (w k : ℕ) (dec : List ℕ → A) (b : List ℕ) (i : ℕ) → i < length (table_of w k dec b)
    → drop i (table_of w k dec b) ≡ dec (take w (drop (4 + w * i) b)) ∷ drop (i + 1) (table_of w k dec b)
table_next w k dec b i h =
    drop-cons (table_of w k dec b) i (dec []) h ∙ rw (add-one i, table_at w k dec b i h)
