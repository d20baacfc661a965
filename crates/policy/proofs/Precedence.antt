-- A search from the highest precedence down finds the rule that decides, in any section. A precedence is one number: the context, times
-- 2 ^ 64, and the position, which is below 2 ^ 64.
use mathlib.Core.Path.{◌≡◌, refl, subst}
use mathlib.Core.Logic.{inl, inr, ⊎_elim}
use mathlib.Core.Bool.{Bool, true, false}
use mathlib.Core.Option.{none, some}
use Prim.Native.Nat.{ℕ, ◌+◌, ◌-◌, ◌*◌, ◌^◌, ◌≤◌, ◌<◌}
use native.Mathlib.Nat.{eq-or-lt_of_le}
use native.Mathlib.Omega.{arith}
use Rattle.policy.specs.Precedence.{deciding, Beats}
use Rattle.policy.proofs.Decides.{deciding_only, deciding_nothing}

abbrev pub rank : ℕ → ℕ → ℕ
rank context i = context * 18446744073709551616 + i

module _ (context_of : ℕ → ℕ) (matches : ℕ → Bool) (n : ℕ) where
  -- the rule of the highest rank decides
  decides : (p : ℕ) → n ≤ 2 ^ 64 → p < n → matches p ≡ true
      → ((j : ℕ) → j < n → matches j ≡ true → rank (context_of j) j ≤ rank (context_of p) p) → deciding context_of matches n ≡ some p
  decides p f h m best = deciding_only context_of matches n p (record { inside = h; fits = m; beats = beats })
    where
      beats : (j : ℕ) → j < n → matches j ≡ true → (j ≡ p → ⊥) → Beats context_of p j
      beats j l k d =
          ⊎_elim (λ (e : context_of j ≡ context_of p). inr (e, omega (arith, best j l k))) (λ (c : context_of j < context_of p). inl c)
          (eq-or-lt_of_le (omega (arith, best j l k)))

  nobody : ((j : ℕ) → j < n → matches j ≡ true → ⊥) → deciding context_of matches n ≡ none
  nobody h = deciding_nothing context_of matches n (λ j l. go (matches j) (h j l))
    where
      go : (b : Bool) → (b ≡ true → ⊥) → b ≡ false
      go true k = absurd (k refl)
      go false k = refl

-- ---- from the highest precedence down: a law for each way through the search

-- each matching rule of the n has a precedence below the context and the position that the search has come to
pub record Searching (context_of : ℕ → ℕ) (matches : ℕ → Bool) (n context i : ℕ) : Type 0 where
  pub small : n ≤ 2 ^ 64
  pub inside : i ≤ n
  pub top : context < 4
  pub below : (j : ℕ) → j < n → matches j ≡ true → rank (context_of j) j < rank context i

module _ {context_of : ℕ → ℕ} {matches : ℕ → Bool} {n : ℕ} where
  pub begin : n ≤ 2 ^ 64 → ((j : ℕ) → j < n → context_of j < 4) → Searching context_of matches n 3 n
  begin h four = record { small = h; inside = omega arith; top = omega arith; below = λ j l m. omega (arith, four j l) }

  module _ {context i : ℕ} (u : Searching context_of matches n context i) where
    -- a context has been gone through, or all of them
    pub down : i ≡ 0 → (context ≡ 0 → ⊥) → Searching context_of matches n (context - 1) n
    down z h = record { small = u.small; inside = omega arith; top = omega arith; below = λ j l m. omega (arith, u.below j l m) }

    pub over : i ≡ 0 → context ≡ 0 → deciding context_of matches n ≡ none
    over z h = nobody context_of matches n (λ j l m. omega (arith, u.below j l m))

    -- the rule below i is none of this context that matches
    pub pass : (i ≡ 0 → ⊥) → (context_of (i - 1) ≡ context → matches (i - 1) ≡ true → ⊥) → Searching context_of matches n context (i - 1)
    pass h differs = record { small = u.small; inside = omega arith; top = u.top; below = lower }
      where
        lower : (j : ℕ) → j < n → matches j ≡ true → rank (context_of j) j < rank context (i - 1)
        lower j l m =
            ⊎_elim
            (λ (e : rank (context_of j) j ≡ rank context (i - 1)).
            let k : j ≡ i - 1 = omega arith in
            absurd (differs (subst (λ (k : ℕ). context_of k ≡ context) k (omega arith)) (subst (λ (k : ℕ). matches k ≡ true) k m)))
            (λ (k : rank (context_of j) j < rank context (i - 1)). k)
            (eq-or-lt_of_le (omega (arith, u.below j l m)))

    -- it is one
    pub found : (i ≡ 0 → ⊥) → context_of (i - 1) ≡ context → matches (i - 1) ≡ true → deciding context_of matches n ≡ some (i - 1)
    found h e m = decides context_of matches n (i - 1) u.small (omega arith) m (λ j l k. omega (arith, u.below j l k))
