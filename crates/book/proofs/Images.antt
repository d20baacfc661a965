-- The answer of an image that a call refuses: it ends an offering, is no verdict on a message, is 30 or above, and is not 51.
use mathlib.Core.Path.{◌≡◌, refl, sym}
use mathlib.Core.Bool.{true, false, false≢true}
use mathlib.Core.List.{List}
use Prim.Native.Nat.{ℕ, ◌≤◌}
use native.Mathlib.Omega.{arith}
use lib.Dec.{eqb}
use Rattle.image.specs.Good.{good_image, outcome_of, outcome_answer, image_answer}
use Rattle.image.specs.declared.Outcome.{Outcome}
use Rattle.wire.proofs.Tests.{choice}
use Rattle.rules.specs.Places.{is_stop}
use Rattle.book.specs.Split.{is_verdict}

pub record Refusal (a : ℕ) : Type 0 where
  pub stops : is_stop a ≡ true
  pub silent : is_verdict a ≡ false
  pub not51 : a ≡ 51 → ⊥
  pub high : 30 ≤ a

pub image_refuses : (image : List ℕ) → eqb (image_answer image) 0 ≡ false → Refusal (image_answer image)
unfolding image_answer outcome_of
image_refuses image =
    choice (λ (o : Outcome). eqb (outcome_answer o) 0 ≡ false → Refusal (outcome_answer o)) (good_image image) _ _ (λ b e. absurd (false≢true (sym e)))
    (λ b e. record { stops = refl; silent = refl; not51 = λ q. omega arith; high = omega arith })
