-- Where no thing is all zeros, a table counts its cells that are not: its count follows from the bytes behind it.
use mathlib.Core.Bool.{Bool, true, false, ◌&&◌}
use mathlib.Core.List.{List, [], ◌∷◌, map, append-nil}
use mathlib.Core.Path.{◌≡◌, refl, sym, ap, ◌∙◌}
use Prim.Native.Nat.{ℕ, zero, suc, ◌+◌, ◌-◌, ◌*◌, ◌≤◌, ◌<◌, min}
use native.Mathlib.Omega.{arith}
use native.Mathlib.Nat.{mul-le-mul_left}
use lib.ListN.{length, get_or, take, drop, replicate, take-append-drop}
use lib.Seq.{drop-drop}
use borrow.Author.Tests.{eqb-true}
use Rattle.wire.specs.Bytes.{all_zero}
use Rattle.wire.specs.Lists.{every}
use Rattle.wire.specs.Words.{word_at}
use Rattle.wire.specs.declared.Order.TheVariants.{Little}
use Rattle.wire.proofs.Texts.{both, zero_append}
use Rattle.wire.proofs.Parts.{drop_take}
use Rattle.tables.specs.Tables.{parts, table_bytes, table_of, used}
use Rattle.tables.proofs.Words.{word_take}
use Rattle.tables.proofs.Cells.{parts_take}
use Rattle.tables.proofs.Table.{table_count, table_many}
use Rattle.tables.proofs.Written.{table_unused}

-- ---- zeros

zeros_all : (n : ℕ) → all_zero (replicate n 0) ≡ true
unfolding all_zero
zeros_all zero = refl
zeros_all (suc n) = zeros_all n

zero_at : (b : List ℕ) (i : ℕ) → all_zero b ≡ true → get_or b i 0 ≡ 0
unfolding all_zero
zero_at [] i e = refl
zero_at (x ∷ b) zero e = eqb-true x 0 (search both)
zero_at (x ∷ b) (suc i) e = zero_at b i (search both)

-- any number in zeros is 0
pub zeros_word : (b : List ℕ) (i : ℕ) → all_zero b ≡ true → word_at Little b i ≡ 0
unfolding word_at
zeros_word b i e = rw (zero_at b i e, zero_at b (i + 1) e, zero_at b (i + 2) e, zero_at b (i + 3) e)

-- ---- parts that are not all zero

-- none of zeros
used_none : (w k : ℕ) (d : List ℕ) → all_zero d ≡ true → used (parts w k d) ≡ 0
unfolding used parts
used_none w zero d e = refl
used_none w (suc k) d e =
    let f : all_zero (take w d) && all_zero (drop w d) ≡ true = sym (zero_append (take w d) (drop w d)) ∙ ap all_zero (take-append-drop w d) ∙ e in
    let g : all_zero (take w d) ≡ true = search both in
    rw (g, used) (used_none w k (drop w d) (search both))

-- a thing that passes t is not all zeros
module _ {A : Type 0} (w : ℕ) (dec : List ℕ → A) (t : A → Bool) (some : (b : List ℕ) → t (dec b) ≡ true → all_zero b ≡ false) where
  -- n things, then zeros
  used_parts : (n k : ℕ) (d : List ℕ) → n ≤ k → every t (map dec (parts w n d)) ≡ true → all_zero (drop (w * n) d) ≡ true → used (parts w k d) ≡ n
  unfolding used parts
  used_parts zero k d h e z = let o : w * 0 ≡ 0 = omega arith in used_none w k d (rw o at z)
  used_parts (suc n) zero d h e z = absurd (omega arith)
  used_parts (suc n) (suc k) d h e z =
      let o : w * suc n ≡ w + w * n = omega arith in
      let f : all_zero (take w d) ≡ false = some (take w d) (search both) in
      rw (f, used) (ap suc (used_parts n k (drop w d) (omega arith) (search both) (rw (drop-drop (w * n) w d, ← o) z)))

  -- the count in bytes that begin with the table which is read off them
  pub table_used : (k : ℕ) (enc : A → List ℕ) → ((x : A) → length (enc x) ≡ w) → (b : List ℕ) → k < 4294967296
      → take (4 + w * k) b ≡ table_bytes w k enc (table_of w k dec b) → every t (table_of w k dec b) ≡ true
      → word_at Little b 0 ≡ used (parts w k (drop 4 b))
  unfolding table_of
  table_used k enc sized b s q e =
      let xs = table_of w k dec b in
      let n = length xs in
      let d = take (w * k) (drop 4 b) in
      let m : n ≡ min (word_at Little b 0) k = table_many w k dec b in
      let l : n ≤ k = omega arith in
      let c : word_at Little b 0 ≡ n
      = sym (word_take b (4 + w * k) 0 (omega arith))
      ∙ ap (λ (z : List ℕ). word_at Little z 0) (q ∙ sym (append-nil (table_bytes w k enc xs)))
      ∙ table_count w k enc xs [] (omega arith) in
      let z : drop (w * n) d ≡ replicate (w * k - w * n) 0
      = rw (← drop_take 4 (w * k) b, drop-drop (w * n) 4 (take (4 + w * k) b)) (table_unused w k enc sized xs (take (4 + w * k) b) n q refl l) in
      let f : every t (map dec (parts w n d)) ≡ true = rw (parts_take w n (w * k) (drop 4 b) (mul-le-mul_left w l), m) e in
      c
      ∙ sym (used_parts n k d l f (ap all_zero z ∙ zeros_all (w * k - w * n)))
      ∙ ap used (parts_take w k (w * k) (drop 4 b) (omega arith))
