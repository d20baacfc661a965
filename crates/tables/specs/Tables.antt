-- Things of one width in bytes, one after the other; and tables of them (rule 10.2). A table is as long whatever it holds, so that putting one changes
-- nothing else.
use Rattle.std.specs.Prelude.{Bool, true, false, ◌&&◌, List, [], ◌∷◌, ◌++◌, map, ℕ, zero, suc, ◌*◌, min, length, take, drop}
use Rattle.wire.specs.Bytes.{all_zero, same, pad}
use Rattle.wire.specs.Words.{word_at, word_bytes}
use Rattle.wire.specs.declared.Order.TheVariants.{Little}

unfoldable pub cells : {A : Type 0} → (A → List ℕ) → List A → List ℕ
cells enc [] = []
cells enc (x ∷ l) = enc x ++ cells enc l

-- the first n parts of w bytes
unfoldable pub parts : ℕ → ℕ → List ℕ → List (List ℕ)
parts w zero m = []
parts w (suc n) m = take w m ∷ parts w n (drop w m)

-- a table with room for k things of w bytes: a count, that many things, and zeros (rule 10.2)
unfoldable pub table_bytes : {A : Type 0} → ℕ → ℕ → (A → List ℕ) → List A → List ℕ
table_bytes w k enc xs = word_bytes (length xs) ++ pad (w * k) (cells enc xs)

-- what the bytes of a table say: as many things as its count, and at most k (rule 10.2)
unfoldable pub table_of : {A : Type 0} → ℕ → ℕ → (List ℕ → A) → List ℕ → List A
table_of w k dec b = map dec (parts w (min (word_at Little b 0) k) (drop 4 b))

-- the first n parts are each the bytes of what is read off them, and what follows is zero
unfoldable pub plain_cells : {A : Type 0} → (A → List ℕ) → (List ℕ → A) → ℕ → ℕ → List ℕ → Bool
plain_cells enc dec w zero d = all_zero d
plain_cells enc dec w (suc n) d = same (enc (dec (take w d))) (take w d) && plain_cells enc dec w n (drop w d)

-- how many of the parts are not all zero
unfoldable pub used : List (List ℕ) → ℕ
used [] = 0
used (b ∷ r) = elim (all_zero b) [ true ↦ used r | false ↦ suc (used r) ]
