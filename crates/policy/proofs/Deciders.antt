-- Who is named as the decider is the one who decides (rule 6.9), in any section and whichever rules match.
use mathlib.Core.Path.{◌≡◌, refl}
use mathlib.Core.Bool.{Bool}
use mathlib.Core.List.{List}
use mathlib.Core.Option.{Option, none, some}
use Prim.Native.Nat.{ℕ}
use Rattle.image.specs.declared.Section.{Section}
use Rattle.policy.specs.Decisions.{decides_in, decision_in, NamedRightly}
use Rattle.policy.specs.declared.Decision.{Decision}
use Rattle.policy.proofs.Decides.{rule_exactly, rule_undecided}

module _ (s : Section) (image : List ℕ) (hits : ℕ → Bool) where
  abbrev decision : Decision
  decision = decision_in s image (decides_in s image hits)

  pub named_rightly : NamedRightly s image hits decision.allow decision.rule
  named_rightly = go (decides_in s image hits) refl
    where
      go : (o : Option ℕ) → decides_in s image hits ≡ o → NamedRightly s image hits (decision_in s image o).allow (decision_in s image o).rule
      go none e = ((rule_undecided s image hits).0 e, refl)
      go (some i) e = (refl, ((rule_exactly s image hits i).0 e, refl))
