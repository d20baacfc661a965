-- Tests of each element of a list and of each number below a bound, and of a table of worked examples.
use Rattle.std.specs.Prelude.{Bool, true, false, not, ◌&&◌, ◌||◌, List, [], ◌∷◌, ℕ, zero, suc}

-- each element passes
abbrev pub every {ℓ} : {A : Type ℓ} → (A → Bool) → List A → Bool
every p [] = true
every p (x ∷ xs) = p x && every p xs

-- some element passes
abbrev pub any {ℓ} : {A : Type ℓ} → (A → Bool) → List A → Bool
any p [] = false
any p (x ∷ xs) = p x || any p xs

-- each element passes, and no later one is the same
unfoldable pub distinct : {A : Type 0} → (A → Bool) → (A → A → Bool) → List A → Bool
distinct p is [] = true
distinct p is (x ∷ xs) = p x && not (any (is x) xs) && distinct p is xs

-- each number below n passes
abbrev pub below : (ℕ → Bool) → ℕ → Bool
below p zero = true
below p (suc n) = below p n && p n

-- each line of a table has the answer that the definitions give to its question
abbrev pub agrees : {Q A : Type 0} → (Q → A) → (A → A → Bool) → List (Q × A) → Bool
agrees answer equal lines = every (λ l. equal (answer l.0) l.1) lines
