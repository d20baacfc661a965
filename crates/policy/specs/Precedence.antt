-- Which rule decides, over any section of rules: `context_of` is the context of the rule at a position, `matches` says whether it matches.
use Rattle.std.specs.Prelude.{◌≡◌, ◌⊎◌, Bool, true, false, cond, ℕ, zero, suc, ◌<◌, leb}
use Rattle.std.proofs.Math.Option.{Option, none, some}

-- of two rules that match, the one that stands earlier gives way unless its context is higher (rule 6.1)
abbrev pub gives_way : ℕ → ℕ → Bool
gives_way earlier later = leb earlier later

abbrev pub take_over : (ℕ → ℕ) → ℕ → Option ℕ → Option ℕ
take_over context_of i none = some i
take_over context_of i (some j) = cond (gives_way (context_of j) (context_of i)) (some i) (some j)

-- the rule at i is heard where it matches
abbrev pub heard : (ℕ → ℕ) → ℕ → Bool → Option ℕ → Option ℕ
heard context_of i true before = take_over context_of i before
heard context_of i false before = before

-- the position, among the first n rules, of the one that decides (rule 6.1)
unfoldable pub deciding : (ℕ → ℕ) → (ℕ → Bool) → ℕ → Option ℕ
deciding context_of matches zero = none
deciding context_of matches (suc i) = heard context_of i (matches i) (deciding context_of matches i)

-- the decision is the verdict of the rule that decides, and deny where there is none (rule 6.1)
abbrev pub rule_verdict : (ℕ → Bool) → Option ℕ → Bool
rule_verdict allows none = false
rule_verdict allows (some i) = allows i

-- ---- the same without a search: proofs/Decides.antt proves that it is

-- the rule at i has a higher precedence than the one at j: a higher context, or the same context and a later position (rule 6.1)
abbrev pub Beats : (ℕ → ℕ) → ℕ → ℕ → Type 0
Beats context_of i j = (context_of j < context_of i) ⊎ ((context_of j ≡ context_of i) × (j < i))

-- of the first n rules the one at i decides: it matches, and has a higher precedence than every other that matches
pub record Decides (context_of : ℕ → ℕ) (matches : ℕ → Bool) (n i : ℕ) : Type 0 where
  pub inside : i < n
  pub fits : matches i ≡ true
  pub beats : (j : ℕ) → j < n → matches j ≡ true → (j ≡ i → ⊥) → Beats context_of i j

-- none of the first n rules matches
abbrev pub NoneMatches : (ℕ → Bool) → ℕ → Type 0
NoneMatches matches n = (j : ℕ) → j < n → matches j ≡ false
