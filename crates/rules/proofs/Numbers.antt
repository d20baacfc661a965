-- Who decided, in two numbers: each way through the match.
use Rattle.std.proofs.Common.{◌≡◌, sym, ap, ◌∙◌, List, [], ◌∷◌, ℕ, rules, Option, Some, None}
use Rattle.image.specs.declared.Section.{Section}
use Rattle.policy.specs.Decisions.{decider_words}
use Rattle.policy.specs.declared.Decider.{Decider}
use Rattle.policy.specs.declared.Decider.TheVariants.{Nobody, Rule}
use Rattle.rules.specs.Places.{shown_words}

pub nobody_numbers : {d : Decider} → d ≡ Nobody → 2 ∷ 0 ∷ [] ≡ decider_words d
nobody_numbers e = ap decider_words (sym e)

pub rule_numbers : {d : Decider} {s : Section} {i : ℕ} → d ≡ Rule s i → 1 ∷ i ∷ [] ≡ decider_words d
rule_numbers e = ap decider_words (sym e)

pub nothing_numbers : {x : Option Decider} → x ≡ None → 0 ∷ 0 ∷ [] ≡ shown_words x
nothing_numbers e = ap shown_words (sym e)

pub by_numbers : {x : Option Decider} {d : Decider} → x ≡ Some d → {l : List ℕ} → l ≡ decider_words d → l ≡ shown_words x
by_numbers e q = q ∙ ap shown_words (sym e)

pub ruleset numbers = (nobody_numbers, rule_numbers, nothing_numbers, by_numbers, rules)
