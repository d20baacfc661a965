-- Where a type of a signature ends.
use Rattle.std.proofs.Common.{◌≡◌, refl, Bool, true, false, List, [], ◌∷◌, ℕ, zero, suc, ◌+◌, add-one, eqb, eq-eqb, ne_eqb}
use Rattle.types.specs.Letters.{opens, closes}
use Rattle.types.specs.Types.{behind}

-- ---- a byte in front

module _ (b : ℕ) (s : List ℕ) where
  pub close_last : closes b ≡ true → behind 1 (b ∷ s) ≡ s
  unfolding behind
  close_last t = rw (behind, t)

  module _ (n : closes b ≡ false) where
    pub open_one : opens b ≡ true → (d : ℕ) → behind d (b ∷ s) ≡ behind (d + 1) s
    unfolding behind
    open_one t d = rw (behind, n, t, add-one)

    module _ (m : opens b ≡ false) where
      pub array_on : b ≡ 97 → behind 0 (b ∷ s) ≡ behind 0 s
      unfolding behind
      array_on e = rw (behind, n, m, eq-eqb b 97 e)

      pub letter_on : (b ≡ 97 → ⊥) → behind 0 (b ∷ s) ≡ s
      unfolding behind
      letter_on e = rw (behind, n, m, ne_eqb b 97 e)

-- ---- brackets that are left one after the other

-- what k + 1 brackets leave, and then one more
twice : (k : ℕ) (s : List ℕ) → behind 1 (behind (suc k) s) ≡ behind (suc (suc k)) s
unfolding behind
twice k [] = refl
twice k (b ∷ s) = go (closes b) refl (opens b) refl (eqb b 97) refl k (λ k. twice k s)
  where
    go : (x : Bool) → closes b ≡ x → (y : Bool) → opens b ≡ y → (z : Bool) → eqb b 97 ≡ z → (k : ℕ)
        → ((k : ℕ) → behind 1 (behind (suc k) s) ≡ behind (suc (suc k)) s) → behind 1 (behind (suc k) (b ∷ s)) ≡ behind (suc (suc k)) (b ∷ s)
    go true e y f z g zero w = rw (behind, e)
    go true e y f z g (suc k) w = rw (behind, e) (w k)
    go false e true f z g k w = rw (behind, e, f) (w (suc k))
    go false e false f true g k w = rw (behind, e, f, g) (w k)
    go false e false f false g k w = rw (behind, e, f, g) (w k)

-- a type is passed, and then the bracket that it stands in is left
pub hops : (s : List ℕ) → behind 1 (behind 0 s) ≡ behind 1 s
unfolding behind
hops [] = refl
hops (b ∷ s) = go (closes b) refl (opens b) refl (eqb b 97) refl (hops s)
  where
    go : (x : Bool) → closes b ≡ x → (y : Bool) → opens b ≡ y → (z : Bool) → eqb b 97 ≡ z
        → behind 1 (behind 0 s) ≡ behind 1 s → behind 1 (behind 0 (b ∷ s)) ≡ behind 1 (b ∷ s)
    go true e y f z g w = rw (behind, e) (rw (behind, e))
    go false e true f z g w = rw (behind, e, f) (twice 0 s)
    go false e false f true g w = rw (behind, e, f, g) w
    go false e false f false g w = rw (behind, e, f, g)
