-- 51 is no answer of the model, whatever it holds (rule 11.3): its calls answer at most 41, and an image that is refused answers something else.
use mathlib.Core.Path.{◌≡◌}
use mathlib.Core.List.{List, [], ◌∷◌}
use Prim.Native.Nat.{ℕ, ◌≤◌}
use native.Mathlib.Omega.{arith}
use lib.Dec.{eqb}
use lib.ListN.{length}
use Rattle.image.specs.Good.{image_answer}
use Rattle.stream.specs.Stream.{broken}
use Rattle.rules.specs.State.{State}
use Rattle.rules.specs.Calls.{Step}
use Rattle.rules.specs.declared.Connected.{Connected}
use Rattle.rules.specs.declared.Owned.{Owned}
use Rattle.rules.specs.declared.Taken.{Taken}
use Rattle.wire.proofs.Tests.{choice}
use Rattle.sound.proofs.Numbers.{broken_number}
use Rattle.sound.proofs.Answers.{connect_modest, own_modest, release_modest, disconnect_modest, tick_modest}
use Rattle.sound.proofs.Pieces.{piece_modest}
use Rattle.book.specs.Book.{current, books}
use Rattle.book.specs.Lists.{Call, starts, connects, claims, releases, offers, leaves, ticks, model_step, answers, number_of, Never51}
use Rattle.book.proofs.Images.{image_refuses}

pub book_faults : (xs : List ℕ) (a : ℕ) → books.judge xs ≡ broken a → (1 ≤ a) × (a ≤ 9)
book_faults xs a e = broken_number (length (current xs)) (current xs) a e

few : {a : ℕ} → a ≤ 41 → a ≡ 51 → ⊥
few h e = omega arith

never : (b : State (List ℕ)) (c : Call) → number_of (model_step b c).answer ≡ 51 → ⊥
unfolding model_step
never b starts = λ e. omega arith
never b (connects image uid gids) =
    choice (λ (z : Step (List ℕ) Connected). z.result.answer ≡ 51 → ⊥) (eqb (image_answer image) 0) _ _
    (λ a. few (connect_modest books b image uid gids).most) (λ a. (image_refuses image a).not51)
never b (claims image n name) =
    choice (λ (z : Step (List ℕ) Owned). z.result.answer ≡ 51 → ⊥) (eqb (image_answer image) 0) _ _
    (λ a. few (own_modest b image n name).most) (λ a. (image_refuses image a).not51)
never b (releases n name) = few (release_modest b n name).most
never b (offers image n bytes) =
    choice (λ (z : Step (List ℕ) Taken). z.result.judgement.answer ≡ 51 → ⊥) (eqb (image_answer image) 0) _ _
    (λ a. few (piece_modest books book_faults b image n bytes).most) (λ a. (image_refuses image a).not51)
never b (leaves n) = few (disconnect_modest books b n).most
never b (ticks now limit) = few (tick_modest b now limit).most

pub nevers : (b : State (List ℕ)) (cs : List Call) → Never51 (answers b cs)
unfolding answers
nevers b [] = tt
nevers b (c ∷ cs) = (never b c, nevers (model_step b c).state cs)
