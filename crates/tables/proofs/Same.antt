-- Where bytes are those of the table that is read off them: the count is in bounds, each cell is plain, and what follows is zero.
use mathlib.Core.Bool.{Bool, true, false, ◌&&◌, and_assoc}
use mathlib.Core.List.{List, [], ◌∷◌, ◌++◌, map}
use mathlib.Core.Path.{◌≡◌, refl, sym, ap, ap₂, ◌∙◌}
use Prim.Native.Nat.{ℕ, zero, suc, ◌+◌, ◌-◌, ◌*◌, ◌≤◌, min, ◌<◌}
use native.Mathlib.Omega.{arith}
use native.Mathlib.Nat.{min-eq_left}
use native.Mathlib.Decide.{dec_le}
use lib.Dec.{eqb, leb}
use lib.ListN.{length, take, drop, replicate, length-drop, length-map}
use lib.Seq.{drop-drop, length-take-le}
use borrow.Author.Tests.{eq-eqb, ne_eqb, le-leb, lt-leb}
use Rattle.wire.specs.Bytes.{Below, all_zero, same, pad}
use Rattle.wire.specs.Words.{word_at, word_bytes}
use Rattle.wire.specs.declared.Order.TheVariants.{Little}
use Rattle.wire.proofs.Texts.{same_refl, ne_same}
use Rattle.wire.proofs.Words.{word_again}
use Rattle.tables.specs.Tables.{cells, parts, table_bytes, table_of, plain_cells}
use Rattle.wire.proofs.Parts.{pad_past, take_zeros}
use Rattle.tables.proofs.Words.{word_cut, bytes_take, bytes_drop}
use Rattle.tables.proofs.Cells.{parts_length}
use Rattle.tables.proofs.Table.{table_many}

-- ---- equal bytes, part by part

zero_sym : (x : ℕ) → eqb 0 x ≡ eqb x 0
zero_sym zero = refl
zero_sym (suc x) = ne_eqb 0 (suc x) (λ e. omega arith) ∙ sym (ne_eqb (suc x) 0 (λ e. omega arith))

pub same_zeros : (b : List ℕ) → same (replicate (length b) 0) b ≡ all_zero b
unfolding same all_zero
same_zeros [] = refl
same_zeros (x ∷ b) = rw (zero_sym x, same_zeros b)

pub same_prefix : (p a b : List ℕ) → same (p ++ a) (p ++ b) ≡ same a b
unfolding same
same_prefix [] a b = refl
same_prefix (x ∷ p) a b = rw (eq-eqb x x refl) (same_prefix p a b)

split : (p q d : List ℕ) → same (p ++ q) d ≡ same p (take (length p) d) && same q (drop (length p) d)
unfolding same
split [] q d = refl
split (x ∷ p) q [] = refl
split (x ∷ p) q (y ∷ d) =
    rw (split p q d) (sym (and_assoc (eqb x y) (same p (take (length p) d)) (same q (drop (length p) d))))

pub same_split : (p q d : List ℕ) (n : ℕ) → length p ≡ n → same (p ++ q) d ≡ same p (take n d) && same q (drop n d)
same_split p q d n e = rw (← e) (split p q d)

pub pad_none : (n : ℕ) → pad n [] ≡ replicate n 0
unfolding pad
pad_none n = take_zeros n n (omega arith)

padded : (k n : ℕ) (d : List ℕ) → length d ≤ n → same (take (length d) (take k d ++ replicate n 0)) d ≡ all_zero (drop k d)
unfolding same all_zero
padded zero n [] l = refl
padded (suc k) n [] l = refl
padded zero zero (x ∷ d) l = absurd (omega arith)
padded zero (suc n) (x ∷ d) l = ap₂ ◌&&◌ (zero_sym x) (padded zero n d (omega arith))
padded (suc k) n (x ∷ d) l = rw (eq-eqb x x refl) (padded k n d (omega arith))

-- a number's own bytes are no matter
pub same_word : (b q : List ℕ) → 4 ≤ length b → Below 256 b → same (word_bytes (word_at Little b 0) ++ q) b ≡ same q (drop 4 b)
same_word b q h f =
    let p = word_bytes (word_at Little b 0) in
    ap (same (p ++ q)) (word_cut b h f) ∙ same_prefix p q (drop 4 b)

-- the padding of the first k bytes is all of them exactly where what follows is zero
pub same_pad : (k n : ℕ) (d : List ℕ) → length d ≡ n → same (pad n (take k d)) d ≡ all_zero (drop k d)
unfolding pad
same_pad k n d e = rw (← e) (padded k (length d) d (omega arith))

-- ---- plain cells

module _ {A : Type 0} (w : ℕ) (enc : A → List ℕ) (sized : (x : A) → length (enc x) ≡ w) (dec : List ℕ → A) where
  pub cells_same : (n k : ℕ) (d : List ℕ) → n ≤ k → length d ≡ w * k
      → same (pad (w * k) (cells enc (map dec (parts w n d)))) d ≡ plain_cells enc dec w n d
  unfolding plain_cells cells parts
  cells_same zero k d h l = rw (← l) (ap (λ (z : List ℕ). same z d) (pad_none (length d)) ∙ same_zeros d)
  cells_same (suc n) zero d h l = absurd (omega arith)
  cells_same (suc n) (suc k) d h l =
      let e : w * suc k ≡ w + w * k = omega arith in
      let x = enc (dec (take w d)) in
      let r = cells enc (map dec (parts w n (drop w d))) in
      let f : length (drop w d) ≡ w * k = length-drop w d ∙ omega arith in
      rw (e, pad_past x r w (w * k) (sized (dec (take w d))), same_split x (pad (w * k) r) d w (sized (dec (take w d))))
      (ap (λ (b : Bool). same x (take w d) && b) (cells_same n k (drop w d) (omega arith) f))

  -- the count is in bounds
  table_within : (k : ℕ) (b : List ℕ) (n : ℕ) → length b ≡ 4 + w * k → Below 256 b → n ≡ word_at Little b 0 → n ≤ k
      → same (table_bytes w k enc (table_of w k dec b)) b ≡ plain_cells enc dec w n (drop 4 b)
  unfolding table_bytes table_of
  table_within k b n l f e h =
      let m : min n k ≡ n = min-eq_left h in
      let d = drop 4 b in
      let xs = map dec (parts w n d) in
      let c : length xs ≡ n = length-map (parts w n d) dec ∙ parts_length w n d in
      let t : b ≡ word_bytes n ++ d = word_cut b (omega arith) f ∙ ap (λ (x : ℕ). word_bytes x ++ d) (sym e) in
      let x = pad (w * k) (cells enc xs) in
      rw (← e, m, c)
      (ap (same (word_bytes n ++ x)) t ∙ same_prefix (word_bytes n) x d ∙ cells_same n k d h (length-drop 4 b ∙ omega arith))

  -- the count is out of bounds
  table_beyond : (k : ℕ) (b : List ℕ) (n : ℕ) → k < 4294967296 → n ≡ word_at Little b 0 → k < n
      → same (table_bytes w k enc (table_of w k dec b)) b ≡ false
  unfolding table_bytes
  table_beyond k b n s e h =
      let xs = table_of w k dec b in
      let m : length xs ≡ k = table_many w k dec b ∙ omega arith in
      let c : word_at Little (word_bytes (length xs) ++ pad (w * k) (cells enc xs)) 0 ≡ length xs
      = word_again (length xs) (pad (w * k) (cells enc xs)) (omega arith) in
      ne_same (word_bytes (length xs) ++ pad (w * k) (cells enc xs)) b
      (λ q. let r : length xs ≡ word_at Little b 0 = sym c ∙ ap (λ (z : List ℕ). word_at Little z 0) q in omega arith)

  -- bytes of a table's length are those of the table read off them
  pub table_same : (k : ℕ) (b : List ℕ) (n : ℕ) → k < 4294967296 → length b ≡ 4 + w * k → Below 256 b → n ≡ word_at Little b 0
      → same (table_bytes w k enc (table_of w k dec b)) b ≡ leb n k && plain_cells enc dec w n (drop 4 b)
  table_same k b n s l f e = elim (dec_le n k) [
    | yes h ↦ rw (le-leb n k h) (table_within k b n l f e h)
    | no h ↦ rw (lt-leb n k (omega arith)) (table_beyond k b n s e (omega arith))
  ]

  -- ---- from cell j on, as a loop goes

  pub plain_next : (n j : ℕ) (d : List ℕ) → j < n
      → plain_cells enc dec w (n - j) (drop (w * j) d)
      ≡ same (enc (dec (take w (drop (w * j) d)))) (take w (drop (w * j) d)) && plain_cells enc dec w (n - (j + 1)) (drop (w * j + w) d)
  unfolding plain_cells
  plain_next n j d h =
      let e : n - j ≡ suc (n - (j + 1)) = omega arith in
      rw (e, drop-drop w (w * j) d)

  pub plain_end : (n j : ℕ) (d : List ℕ) → n ≤ j → plain_cells enc dec w (n - j) (drop (w * j) d) ≡ all_zero (drop (w * j) d)
  unfolding plain_cells
  plain_end n j d h = let e : n - j ≡ 0 = omega arith in rw e

  -- where any cell is plain, the zeros alone are left to test
  pub plain_always : ((b : List ℕ) → length b ≡ w → Below 256 b → enc (dec b) ≡ b)
      → (n : ℕ) (d : List ℕ) → w * n ≤ length d → Below 256 d → plain_cells enc dec w n d ≡ all_zero (drop (w * n) d)
  unfolding plain_cells
  plain_always always zero d l f = let e : w * 0 ≡ 0 = omega arith in rw e
  plain_always always (suc n) d l f =
      let e : w * suc n ≡ w + w * n = omega arith in
      let b = take w d in
      let q : enc (dec b) ≡ b = always b (length-take-le w d (omega arith)) (bytes_take w d f) in
      let p : same (enc (dec b)) b ≡ true = ap (λ (z : List ℕ). same z b) q ∙ same_refl b in
      rw (p, e, ← drop-drop (w * n) w d) (plain_always always n (drop w d) (omega (arith, length-drop w d)) (bytes_drop w d f))
