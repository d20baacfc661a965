-- What holds wherever a conversion is answered 0 (rule 14.6), whatever room was lent: the claims take that answer and nothing else.
use mathlib.Core.Path.{◌≡◌, ◌∙◌}
use mathlib.Core.Bool.{true}
use mathlib.Core.List.{List}
use Prim.Native.Nat.{ℕ}
use native.Mathlib.Omega.{arith}
use Rattle.wire.specs.Bytes.{same}
use Rattle.wire.specs.Lists.{any}
use Rattle.wire.proofs.Tests.{choice}
use Rattle.image.specs.Good.{good_image, without_prefixes, image_answer}
use Rattle.image.proofs.Answers.{image_answers}
use Rattle.image.specs.Promises.{GoodImage}
use Rattle.image.proofs.Holds.{image_holds}
use Rattle.policy.specs.Matching.{Message}
use Rattle.policy.specs.Decisions.{may_own, connect_decision, transaction_decision}
use Rattle.policy.specs.declared.Uid.{Uid}
use Rattle.prefixes.specs.Names.{listed, good_list}
use Rattle.prefixes.specs.Converted.{converted, roomy, retire_answer}
use Rattle.prefixes.proofs.Laid.{Small, roomy_small}
use Rattle.prefixes.proofs.Good.{new_good, new_exact}
use Rattle.prefixes.proofs.Kept.{connect_same, transaction_same}
use Rattle.prefixes.proofs.Verdict.{own_same}

-- the tests that were passed
record Passed (image list : List ℕ) (n : ℕ) : Type 0 where
  good : good_image image ≡ true
  names : good_list list ≡ true
  fits : roomy image list n ≡ true

module _ (image list : List ℕ) (n : ℕ) (answered : retire_answer image list n ≡ 0) where
  passed : Passed image list n
  unfolding retire_answer
  passed =
      choice (λ (a : ℕ). a ≡ 0 → Passed image list n) (good_image image) _ _
      (λ g. choice (λ (a : ℕ). a ≡ 0 → Passed image list n) (good_list list) _ _
      (λ l. choice (λ (a : ℕ). a ≡ 0 → Passed image list n) (roomy image list n) _ _ (λ f e. record { good = g; names = l; fits = f })
      (λ f e. absurd (omega arith)))
      (λ l e. absurd (omega arith)))
      (λ g e. absurd (omega arith))
      answered

  holds : GoodImage image
  holds = image_holds image passed.good

  small : Small image list
  small = roomy_small n passed.fits

  -- the new image is good
  pub result_good : good_image (converted image list) ≡ true
  result_good = new_good image list holds small passed.names

  -- it has no prefix rule
  pub result_exact : without_prefixes (converted image list) ≡ true
  result_exact = new_exact image list holds small passed.names

  -- so a call that is lent it goes on
  pub result_taken : image_answer (converted image list) ≡ 0
  result_taken = image_answers (converted image list) ∙ rw result_good

  -- of each listed name everybody has the verdict that he had
  pub own_kept : (uid : Uid) (gids name : List ℕ) → any (same name) (listed list) ≡ true → may_own (converted image list) uid gids name ≡ may_own image uid gids name
  own_kept uid gids name = own_same image list holds small uid gids name passed.names

  -- the same may join, by the same rule
  pub connect_kept : (uid : Uid) (gids : List ℕ) → connect_decision (converted image list) uid gids ≡ connect_decision image uid gids
  connect_kept = connect_same image list holds small

  -- the same may pass, by the same rule
  pub transaction_kept : (direction : ℕ) (uid : Uid) (gids : List ℕ) (names : List (List ℕ)) (m : Message)
      → transaction_decision (converted image list) direction uid gids names m ≡ transaction_decision image direction uid gids names m
  transaction_kept = transaction_same image list holds small
