-- What the tests of a letter say.
use Rattle.std.proofs.Common.{◌≡◌, Bool, true, false, cond, ◌||◌, ℕ, ◌≤◌, arith, eqb, rules, ne_eqb}
use mathlib.Core.Bool.{false≢true}
use Rattle.wire.specs.Bytes.{one_of}
use Rattle.signature.specs.Signature.{basic}
use Rattle.types.specs.Letters.{opens, closes, letter, align_of, width_of}

-- ---- how values are aligned, and how wide numbers are

module _ (b : ℕ) where
  pub align_1 : one_of false "ygv" b ≡ true → 1 ≡ align_of b
  unfolding align_of
  align_1 t = rw t

  module _ (n : one_of false "ygv" b ≡ false) where
    pub align_2 : one_of false "nq" b ≡ true → 2 ≡ align_of b
    unfolding align_of
    align_2 t = rw (n, t)

    module _ (m : one_of false "nq" b ≡ false) where
      pub align_8 : one_of false "xtd({" b ≡ true → 8 ≡ align_of b
      unfolding align_of
      align_8 t = rw (n, m, t)

      pub align_4 : one_of false "xtd({" b ≡ false → 4 ≡ align_of b
      unfolding align_of
      align_4 t = rw (n, m, t)

pub ruleset aligned = (align_1, align_2, align_8, align_4, rules)

module _ (b : ℕ) {k : Bool} (e : k ≡ basic b) where
  pub width_none : k ≡ false → 0 ≡ width_of b
  unfolding width_of
  width_none t = rw (← e, t)

  module _ (t : k ≡ true) where
    pub width_text : one_of false "bsog" b ≡ true → 0 ≡ width_of b
    unfolding width_of
    width_text m = rw (← e, t, m)

    pub width_is : one_of false "bsog" b ≡ false → {n : ℕ} → n ≡ align_of b → n ≡ width_of b
    unfolding width_of
    width_is m q = rw (← e, t, m) q

pub ruleset widths = (width_none, width_text, width_is, rules)

pub align_some : (b : ℕ) → 1 ≤ align_of b
unfolding align_of
align_some b = go (one_of false "ygv" b) (one_of false "nq" b) (one_of false "xtd({" b)
  where
    go : (x y z : Bool) → 1 ≤ cond x 1 (cond y 2 (cond z 8 4))
    go true y z = omega arith
    go false true z = omega arith
    go false false true = omega arith
    go false false false = omega arith

-- ---- brackets

-- an opening byte closes nothing
pub opens_only : (b : ℕ) → opens b ≡ true → closes b ≡ false
opens_only b t = rw (ne_eqb b 41 (λ e. false≢true (rw e at t)), ne_eqb b 125 (λ e. false≢true (rw e at t)))

-- a letter that is a type by itself closes nothing, opens nothing and is no `a`
module _ (b : ℕ) (t : basic b || eqb b 118 ≡ true) where
  pub plain_closes : closes b ≡ false
  plain_closes = rw (ne_eqb b 41 (λ e. false≢true (rw e at t)), ne_eqb b 125 (λ e. false≢true (rw e at t)))

  pub plain_opens : opens b ≡ false
  plain_opens = rw (ne_eqb b 40 (λ e. false≢true (rw e at t)), ne_eqb b 123 (λ e. false≢true (rw e at t)))

  pub plain_array : b ≡ 97 → ⊥
  plain_array e = false≢true (rw e at t)

pub letter_is : (b : ℕ) {k : Bool} → k ≡ basic b → k || eqb b 118 ≡ letter b
letter_is b e = rw e
