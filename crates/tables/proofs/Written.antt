-- A table changed where it stands in longer bytes, write by write, as code changes it: its cell, then its count.
use mathlib.Core.List.{List, [], ◌∷◌, ◌++◌, append_assoc}
use mathlib.Core.Path.{◌≡◌, refl, sym, ap, ◌∙◌}
use Prim.Native.Nat.{ℕ, suc, ◌+◌, ◌-◌, ◌*◌, ◌≤◌, ◌<◌}
use native.Mathlib.Omega.{arith}
use native.Mathlib.Nat.{mul-le-mul_left}
use lib.ListN.{length, take, drop, replicate, length-append, length-drop}
use lib.Seq.{drop_at, drop-drop, take-take, take-append-le, length-take-le}
use Rattle.wire.specs.Bytes.{pad}
use Rattle.wire.specs.Words.{word_bytes}
use Rattle.wire.proofs.Words.{cut_at, put_at_lem}
use Rattle.tables.specs.Tables.{cells, table_bytes}
use Rattle.tables.specs.Cut.{Cell, without}
use Rattle.wire.proofs.Parts.{drop_take, part_nested}
use Rattle.tables.proofs.Cells.{cells_length}
use Rattle.tables.proofs.Table.{table_body, table_spread}
use Rattle.tables.proofs.Change.{removed, table_append, table_remove}

-- m with the bytes y for the c at a
abbrev pub put : List ℕ → ℕ → ℕ → List ℕ → List ℕ
put m a c y = take a m ++ (y ++ drop (a + c) m)

-- as many as were there
pub put_sized : (m y : List ℕ) (a c : ℕ) → a + c ≤ length m → length y ≡ c → length (put m a c y) ≡ length m
put_sized m y a c h e =
    length-append (take a m) (y ++ drop (a + c) m)
    ∙ omega (arith, length-append y (drop (a + c) m), length-take-le a m (omega arith), length-drop (a + c) m)

module _ {A : Type 0} (w k : ℕ) (enc : A → List ℕ) (sized : (x : A) → length (enc x) ≡ w) where
  -- ---- a thing put at the end

  pub append_written : (xs : List A) (x : A) (m m₁ m₂ : List ℕ) (t p n : ℕ) → t + (4 + w * k) ≤ length m
      → take (4 + w * k) (drop t m) ≡ table_bytes w k enc xs → n ≡ length xs → n < k → p ≡ t + (4 + w * n)
      → m₁ ≡ take p m ++ (enc x ++ drop (p + w) m) → m₂ ≡ take t m₁ ++ (word_bytes (n + 1) ++ drop (t + 4) m₁)
      → m₂ ≡ take t m ++ (table_bytes w k enc (xs ++ (x ∷ [])) ++ drop (t + (4 + w * k)) m)
  append_written xs x m m₁ m₂ t p n h e en l ep e₁ e₂ =
      let o : w * suc n ≤ w * k = mul-le-mul_left w l in
      let d = take (w * k) (drop (t + 4) m) in
      let y = take (w * n) d ++ (enc x ++ drop (w * n + w) d) in
      let post = drop (t + 4 + w * k) m in
      let f : p ≡ t + 4 + w * n = omega arith in
      let g : t + (4 + w * k) ≡ t + 4 + w * k = omega arith in
      let ed : drop 4 (table_bytes w k enc xs) ≡ d = ap (drop 4) (sym e) ∙ drop_take 4 (w * k) (drop t m) ∙ ap (take (w * k)) (drop-drop 4 t m) in
      let q : m₁ ≡ take (t + 4) m ++ (y ++ post) = e₁ ∙ rw f (sym (part_nested m (enc x) (t + 4) (w * n) w (w * k) (omega arith))) in
      let s : length (take (t + 4) m) ≡ t + 4 = length-take-le (t + 4) m (omega arith) in
      let before : take t m₁ ≡ take t m = ap (take t) q ∙ take-append-le t (take (t + 4) m) (y ++ post) (omega arith) ∙ take-take t (t + 4) m (omega arith) in
      let behind : drop (t + 4) m₁ ≡ y ++ post = ap (drop (t + 4)) q ∙ drop_at (take (t + 4) m) (y ++ post) (t + 4) s in
      let table : table_bytes w k enc (xs ++ (x ∷ [])) ≡ word_bytes (n + 1) ++ y
      = rw ed at (table_append w k enc sized xs x (table_bytes w k enc xs) n refl en l) in
      e₂ ∙ rw (before, behind, table, g) (ap (λ (z : List ℕ). take t m ++ z) (sym (append_assoc (word_bytes (n + 1)) y post)))

  -- ---- a thing taken out, by `remove` on the part of m that is the table

  pub remove_written : (xs : List A) (i : ℕ) (m t : List ℕ) (a n : ℕ) → take (4 + w * k) (drop a m) ≡ table_bytes w k enc xs → n ≡ length xs
      → n ≤ k → i < n → t ≡ word_bytes (n - 1) ++ removed w n i (drop 4 (take (a + (4 + w * k) - a) (drop a m)))
      → take a m ++ (t ++ drop (a + (4 + w * k) - a) (drop a m)) ≡ take a m ++ (table_bytes w k enc (without i xs) ++ drop (a + (4 + w * k)) m)
  remove_written xs i m t a n e en h l et =
      let c = 4 + w * k in
      let q : t ≡ table_bytes w k enc (without i xs)
      = et
      ∙ ap (λ (y : List ℕ). word_bytes (n - 1) ++ removed w n i (drop 4 y)) (cut_at a c m)
      ∙ sym (table_remove w k enc sized xs i (take c (drop a m)) n e en h l) in
      put_at_lem a c m t ∙ ap (λ (y : List ℕ). take a m ++ (y ++ drop (a + c) m)) q

  -- ---- cells that are not in use are zero

  pub table_unused : (xs : List A) (b : List ℕ) (n : ℕ) → b ≡ table_bytes w k enc xs → n ≡ length xs → n ≤ k
      → drop (4 + w * n) b ≡ replicate (w * k - w * n) 0
  table_unused xs b n e en h =
      let c = cells enc xs in
      let lc : length c ≡ w * n = cells_length w enc sized xs ∙ ap (λ (q : ℕ). w * q) (sym en) in
      let s : pad (w * k) c ≡ c ++ replicate (w * k - w * n) 0 = rw (← en) at (table_spread w k enc sized xs (omega arith)) in
      sym (drop-drop (w * n) 4 b)
      ∙ ap (drop (w * n)) (ap (drop 4) e ∙ table_body w k enc xs ∙ s)
      ∙ drop_at c (replicate (w * k - w * n) 0) (w * n) lc

-- thing i of the n in the part of m that is a table
pub part_cell : (w k i n : ℕ) (m : List ℕ) (a : ℕ) → a + (4 + w * k) ≤ length m → n ≤ k → i < n
    → Cell (take (a + (4 + w * k) - a) (drop a m)) (4 + w * i) w (4 + w * n)
part_cell w k i n m a h b l =
    let c = 4 + w * k in
    let s : length (take (a + c - a) (drop a m)) ≡ c = ap length (cut_at a c m) ∙ length-take-le c (drop a m) (omega (arith, length-drop a m)) in
    let o : w * suc i ≤ w * n = mul-le-mul_left w l in
    let r : w * n ≤ w * k = mul-le-mul_left w b in
    record { inside = omega arith; room = omega arith }

-- ---- two writes side by side
