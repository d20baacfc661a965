-- Bytes cut out of others, as a thing is taken out of a table (rule 10.2).
use Rattle.std.specs.Prelude.{List, ◌++◌, ℕ, ◌+◌, ◌≤◌, length, take, drop, replicate}

-- the w bytes at q taken out of the first e: the later ones move down, and the last w of them are zero
unfoldable pub cut_out : ℕ → ℕ → ℕ → List ℕ → List ℕ
cut_out w e q t = take q t ++ (drop (q + w) (take e t) ++ (replicate w 0 ++ drop e t))

-- w bytes at `at` stand in the first `end`
pub record Cell (s : List ℕ) (at w end : ℕ) : Type 0 where
  pub inside : at + w ≤ end
  pub room : end ≤ length s

-- a list without its thing i
abbrev pub without : {A : Type 0} → ℕ → List A → List A
without i xs = take i xs ++ drop (i + 1) xs
