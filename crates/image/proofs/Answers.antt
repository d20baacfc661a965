-- The image's answer is 0 exactly where the image is good, and 50 exactly where it is not.
use mathlib.Core.Path.{◌≡◌, refl}
use mathlib.Core.Bool.{Bool, true, false, cond}
use mathlib.Core.List.{List}
use Rattle.image.specs.Good.{good_image, outcome_of, outcome_answer, image_answer}
use Rattle.image.specs.declared.Outcome.TheVariants.{Good, Bad}
use Prim.Native.Nat.{ℕ}

pub image_answers : (image : List ℕ) → image_answer image ≡ cond (good_image image) 0 50
unfolding outcome_of image_answer
image_answers image = go (good_image image)
  where
    go : (b : Bool) → outcome_answer (cond b Good Bad) ≡ cond b 0 50
    go true = refl
    go false = refl
