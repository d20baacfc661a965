-- `matching::transaction_matches` meets its contract.
use Rattle.std.proofs.Common.{◌≡◌, ℕ, Bool, true, false, refl, eqb, ◌∙◌}
use mathlib.Core.Bool.{◌&&◌}
use borrow.Author.Tests.{eq-eqb, ne_eqb}
use Rattle.image.specs.Rules.{rule_from}
use Rattle.policy.specs.Matching.{transaction_matches}
use Rattle.matching.proofs.transaction_matches.Goals as goal
use Rattle.matching.proofs.transaction_matches.Goals.{then-image-at, else-image-at}

-- the direction's test and that of the rest, where the code has made both or the first has failed
both_hold : (a b : ℕ) → a ≡ b → {f v r : Bool} → v ≡ r → r ≡ f → v ≡ eqb a b && f
both_hold a b e p q = rw (eq-eqb a b e) (p ∙ q)

first_fails : (a b : ℕ) → (a ≡ b → ⊥) → (f : Bool) → {v : Bool} → v ≡ eqb a b → v ≡ eqb a b && f
first_fails a b n f p = rw (ne_eqb a b n) (rw (ne_eqb a b n) at p)

pub returns-then-rule_fits : goal.returns-then-rule_fits
unfolding transaction_matches
returns-then-rule_fits c =
    elim c.if-image-at.branch [
      | then-image-at w ↦ rw (← both_hold (rule_from c.args.image.now c.args.at).direction _ w.if-image-at.true w.value-is w.rule_fits.ensures, c.if-rule_fits.true) c.name_fits.ensures
      | else-image-at w ↦ rw (← first_fails (rule_from c.args.image.now c.args.at).direction _ w.if-image-at.false _ w.value-is, c.if-rule_fits.true) c.name_fits.ensures
    ]

pub returns-else-rule_fits : goal.returns-else-rule_fits
unfolding transaction_matches
returns-else-rule_fits c =
    elim c.if-image-at.branch [
      | then-image-at w ↦ rw (← both_hold (rule_from c.args.image.now c.args.at).direction _ w.if-image-at.true w.value-is w.rule_fits.ensures, c.if-rule_fits.false) refl
      | else-image-at w ↦ rw (← first_fails (rule_from c.args.image.now c.args.at).direction _ w.if-image-at.false _ w.value-is, c.if-rule_fits.false) refl
    ]
