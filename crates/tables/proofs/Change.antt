-- Tables changed in their bytes: a thing put at the end; a thing taken out, the later ones moved down.
use mathlib.Core.List.{List, [], ◌∷◌, ◌++◌, map, append_assoc}
use mathlib.Core.Path.{◌≡◌, refl, sym, ap, ◌∙◌}
use Prim.Native.Nat.{ℕ, zero, suc, ◌+◌, ◌-◌, ◌*◌, ◌≤◌, ◌<◌}
use native.Mathlib.Omega.{arith}
use native.Mathlib.Nat.{mul-le-mul_left, suc-add}
use lib.ListN.{length, take, drop, replicate, length-append, length-drop, replicate-append-replicate}
use lib.Seq.{take_at, drop_at, length-take-le}
use Rattle.wire.specs.Bytes.{pad}
use Rattle.wire.specs.Words.{word_bytes}
use Rattle.tables.specs.Tables.{cells, table_bytes}
use Rattle.wire.proofs.Parts.{drop_past, drop_zeros, cut_two}
use Rattle.tables.specs.Cut.{cut_out, without}
use Rattle.tables.proofs.Cells.{cells_length, cells_append, cells_snoc, cells_take, cells_drop}
use Rattle.tables.proofs.Table.{table_body, table_spread}

-- ---- bytes of which the first n cells of w bytes are in use

-- cell j taken out: the later ones move down, and the last one in use is zero
abbrev pub removed : ℕ → ℕ → ℕ → List ℕ → List ℕ
removed w n j t = cut_out w (w * n) (w * j) t

-- by the parts: those before, the cell, those after, and what is not in use
removed_parts : (w n j : ℕ) (a b c e : List ℕ) → length a ≡ w * j → length b ≡ w → w * j + w + length c ≡ w * n
    → removed w n j (a ++ (b ++ (c ++ e))) ≡ a ++ (c ++ (replicate w 0 ++ e))
unfolding cut_out
removed_parts w n j a b c e la lb lc =
    let s : a ++ (b ++ (c ++ e)) ≡ (a ++ (b ++ c)) ++ e = simp append_assoc in
    let l : length (a ++ (b ++ c)) ≡ w * n = length-append a (b ++ c) ∙ omega (arith, length-append b c) in
    rw (
      take_at a (b ++ (c ++ e)) (w * j) la,
      s,
      take_at (a ++ (b ++ c)) e (w * n) l,
      drop_at (a ++ (b ++ c)) e (w * n) l,
      drop_past a (b ++ c) (w * j) w la,
      drop_at b c w lb,
    )

-- of bytes all of which are in use, with others after them
removed_of : (w n j : ℕ) (t e : List ℕ) → length t ≡ w * n → w * suc j ≤ w * n
    → removed w n j (t ++ e) ≡ take (w * j) t ++ (drop (w * j + w) t ++ (replicate w 0 ++ e))
removed_of w n j t e l h =
    let a = take (w * j) t in
    let b = take w (drop (w * j) t) in
    let c = drop (w * j + w) t in
    let la : length a ≡ w * j = length-take-le (w * j) t (omega arith) in
    let lb : length b ≡ w = length-take-le w (drop (w * j) t) (omega (arith, length-drop (w * j) t)) in
    let q : t ++ e ≡ a ++ (b ++ (c ++ e)) = ap (λ (z : List ℕ). z ++ e) (cut_two t (w * j) w) ∙ simp append_assoc in
    ap (removed w n j) q ∙ removed_parts w n j a b c e la lb (omega (arith, length-drop (w * j + w) t))

-- ---- a list without its thing i

pub without_length : {A : Type 0} (i : ℕ) (xs : List A) → i < length xs → length (without i xs) + 1 ≡ length xs
without_length i xs h =
    omega (arith, length-take-le i xs (omega arith), length-drop (i + 1) xs, length-append (take i xs) (drop (i + 1) xs))

pub without_next : {A : Type 0} (x : A) (i : ℕ) (xs : List A) → without (suc i) (x ∷ xs) ≡ x ∷ without i xs
without_next x i xs = rw (suc-add i 1)

pub map_without : {A B : Type 0} (f : A → B) (i : ℕ) (xs : List A) → map f (without i xs) ≡ without i (map f xs)
map_without f zero [] = refl
map_without f zero (x ∷ xs) = refl
map_without f (suc i) [] = rw (suc-add i 1)
map_without {B = B} f (suc i) (x ∷ xs) =
    ap (map f) (without_next x i xs)
    ∙ ap (λ (r : List B). f x ∷ r) (map_without f i xs)
    ∙ sym (without_next (f x) i (map f xs))

module _ {A : Type 0} (w k : ℕ) (enc : A → List ℕ) (sized : (x : A) → length (enc x) ≡ w) where
  -- a thing put at the end: its cell, and the count
  pub table_append : (xs : List A) (x : A) (b : List ℕ) (n : ℕ) → b ≡ table_bytes w k enc xs → n ≡ length xs → n < k
      → table_bytes w k enc (xs ++ (x ∷ [])) ≡ word_bytes (n + 1) ++ (take (w * n) (drop 4 b) ++ (enc x ++ drop (w * n + w) (drop 4 b)))
  unfolding table_bytes
  table_append xs x b n eb en h =
      let len = length xs in
      let ys = xs ++ (x ∷ []) in
      let c = cells enc xs in
      let z = w * k - w * len in
      let lc : length c ≡ w * len = cells_length w enc sized xs in
      let ly : length ys ≡ len + 1 = length-append xs (x ∷ []) in
      let m : w * suc len ≤ w * k = mul-le-mul_left w (rw en at h) in
      let d : drop 4 b ≡ c ++ replicate z 0 = ap (drop 4) eb ∙ table_body w k enc xs ∙ table_spread w k enc sized xs (omega arith) in
      let y : w * k - w * length ys ≡ z - w = rw ly (omega arith) in
      let left : pad (w * k) (cells enc ys) ≡ c ++ (enc x ++ replicate (z - w) 0)
      = rw (table_spread w k enc sized ys (omega arith), cells_snoc enc xs x, y) (append_assoc c (enc x) (replicate (z - w) 0)) in
      rw (
        en,
        d,
        ly,
        left,
        take_at c (replicate z 0) (w * len) lc,
        drop_past c (replicate z 0) (w * len) w lc,
        drop_zeros w z,
      )

  -- thing i taken out: its cell, and the count
  pub table_remove : (xs : List A) (i : ℕ) (b : List ℕ) (n : ℕ) → b ≡ table_bytes w k enc xs → n ≡ length xs → n ≤ k → i < n
      → table_bytes w k enc (without i xs) ≡ word_bytes (n - 1) ++ removed w n i (drop 4 b)
  unfolding table_bytes
  table_remove xs i b n eb en h l =
      let len = length xs in
      let ys = without i xs in
      let t = cells enc xs in
      let z = w * k - w * len in
      let lt : length t ≡ w * len = cells_length w enc sized xs in
      let ly : length ys + 1 ≡ len = without_length i xs (omega arith) in
      let lw : w * (length ys + 1) ≡ w * len = ap (λ (q : ℕ). w * q) ly in
      let m : w * len ≤ w * k = mul-le-mul_left w (rw en at h) in
      let o : w * suc i ≤ w * len = mul-le-mul_left w (rw en at l) in
      let a = take (w * i) t in
      let c = drop (w * i + w) t in
      let d : drop 4 b ≡ t ++ replicate z 0 = ap (drop 4) eb ∙ table_body w k enc xs ∙ table_spread w k enc sized xs (omega arith) in
      let r : removed w len i (t ++ replicate z 0) ≡ a ++ (c ++ (replicate w 0 ++ replicate z 0)) = removed_of w len i t (replicate z 0) lt o in
      let s : w * (i + 1) ≡ w * i + w = omega arith in
      let y : w * k - w * length ys ≡ w + z = omega arith in
      let left : pad (w * k) (cells enc ys) ≡ a ++ (c ++ replicate (w + z) 0)
      = rw (
        table_spread w k enc sized ys (omega arith),
        y,
        cells_append enc (take i xs) (drop (i + 1) xs),
        cells_take w enc sized i xs,
        cells_drop w enc sized (i + 1) xs,
        s,
      ) (append_assoc a c (replicate (w + z) 0)) in
      let e : length ys ≡ len - 1 = omega arith in
      rw (en, d, r, e, left, replicate-append-replicate {A = ℕ} w z 0)
