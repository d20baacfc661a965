-- A test of every element from one index up to another, made block by block. The laws hold of any test of a range that a cut divides in two: a run
-- of zeros, equal texts, a name's bytes.
use Rattle.std.proofs.Common.{◌≡◌, refl, sym, ◌∙◌, Bool, true, false, ◌&&◌, ℕ, ◌≤◌, arith}
use mathlib.Core.Bool.{and-false}
use Rattle.wire.proofs.Texts.{both_first}

-- all from a up to c is good where all from a up to b and all from b up to c is
abbrev pub Divides : (ℕ → ℕ → Bool) → Type 0
Divides P = (a b c : ℕ) → a ≤ b → b ≤ c → P a c ≡ P a b && P b c

module _ (P : ℕ → ℕ → Bool) (d : Divides P) where
  -- one block more
  pub range_grows : (a b c : ℕ) → a ≤ b → b ≤ c → P a b ≡ true → P b c ≡ true → P a c ≡ true
  range_grows a b c h k p q = rw (d a b c h k, p, q)

  -- the last block, where all before it is good
  range_ends : (a b c : ℕ) → a ≤ b → b ≤ c → P a b ≡ true → P a c ≡ P b c
  range_ends a b c h k p = rw (d a b c h k, p)

  -- the last block, which starts at m and may overlap what is known to be good
  pub range_laps : (a m b c : ℕ) → a ≤ m → m ≤ b → b ≤ c → P a b ≡ true → P a c ≡ P m c
  range_laps a m b c h k l p =
      range_ends a m c h (omega arith) (both_first (P a m) (P m b) (sym (d a m b h k) ∙ p))

  -- a block that is not good
  pub range_breaks : (a b c e : ℕ) → a ≤ b → b ≤ c → c ≤ e → P b c ≡ false → P a e ≡ false
  range_breaks a b c e h k l p = rw (d a b e h (omega arith), d b c e k l, p) (and-false (P a b))

  -- two blocks that overlap
  pub range_twice : (a m b c : ℕ) → a ≤ m → m ≤ b → b ≤ c → P a b && P m c ≡ P a c
  range_twice a m b c h k l = go (P a b) refl
    where
      go : (x : Bool) → P a b ≡ x → x && P m c ≡ P a c
      go true e = sym (range_laps a m b c h k l e)
      go false e = sym (range_breaks a a b c (omega arith) (omega arith) l e)
