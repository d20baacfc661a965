-- What proofs/Shows.antt proves of every report that shows who decided (rules 6.9, 7.12 and 8.10).
use Rattle.std.specs.Prelude.{◌≡◌, Bool, true, not, List, ℕ, ◌<◌, eqb, Option, Some, None}
use Rattle.image.specs.Image.{rule_count}
use Rattle.image.specs.declared.Section.{Section}
use Rattle.image.specs.declared.Section.TheVariants.{Transaction}
use Rattle.policy.specs.Matching.{Message}
use Rattle.policy.specs.Decisions.{allows_in, NamedRightly, send, receive, transaction_hits}
use Rattle.policy.specs.declared.Decider.{Decider}
use Rattle.policy.specs.declared.Uid.{Uid}
use Rattle.rules.specs.declared.Judgement.{Judgement}

-- somebody is shown, and is who decided in that section: `hits` says which rules match, and `allow` what was decided
abbrev pub ShowsRightly : Section → List ℕ → (ℕ → Bool) → Bool → Option Decider → Type 0
ShowsRightly s image hits allow None = ⊥
ShowsRightly s image hits allow (Some d) = NamedRightly s image hits allow d

-- what it comes to where rule i of section t is shown: it is a rule of the section that was asked, it matches, and its verdict is what was decided
pub record ShownRule (s : Section) (image : List ℕ) (hits : ℕ → Bool) (allow : Bool) (t : Section) (i : ℕ) : Type 0 where
  pub asked : t ≡ s
  pub inside : i < rule_count s image
  pub fits : hits i ≡ true
  pub verdict : allows_in s image i ≡ allow

-- what the judgement of any message shows: nothing, or who decided about send, which 22 denies, or about receive, which 23 denies (rule 7.12)
pub data MessageShows (image : List ℕ) (j : Judgement) : Type 0 where
  nothing : j.rule ≡ None → MessageShows image j
  sends : (uid : Uid) (gids : List ℕ) (names : List (List ℕ)) (m : Message)
      → ShowsRightly Transaction image (transaction_hits image send uid gids names m) (not (eqb j.answer 22)) j.rule
      → MessageShows image j
  receives : (uid : Uid) (gids : List ℕ) (names : List (List ℕ)) (m : Message)
      → ShowsRightly Transaction image (transaction_hits image receive uid gids names m) (not (eqb j.answer 23)) j.rule
      → MessageShows image j
