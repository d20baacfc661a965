-- The tests that come before a call: the image's answer, then 51 for memory, once over what any call reports.
use Rattle.std.proofs.Common.{◌≡◌, refl, sym, ap, ◌∙◌, Bool, true, false, cond, not, List, [], ◌∷◌, ℕ, ◌≤◌, ◌<◌, arith, eqb, length, replicate, rules, eq-eqb, ne_eqb, eqb-true, Result, Ok, Err}
use Rattle.wire.proofs.Tests.{clash, by_test}
use Rattle.image.specs.Good.{good_image, outcome_of, outcome_answer, image_answer}
use Rattle.image.specs.Promises.{GoodImage}
use Rattle.image.specs.declared.Outcome.{Outcome}
use Rattle.image.specs.declared.Outcome.TheVariants.{Good, Bad}
use Rattle.image.proofs.Holds.{image_holds}
use Rattle.rules.specs.Calls.{no_piece}
use Rattle.rules.specs.Places.{taken_words}
use Rattle.rules.specs.Series.{series, taken_by}
use Rattle.rules.specs.declared.Batch.{Batch}
use Rattle.memory.specs.Layout.{memory_length}
use Rattle.memory.specs.Good.{good}
use Rattle.memory.specs.Sound.{Held}
use Rattle.memory.specs.Encoding.{state_of}
use Rattle.memory.specs.Calls.{MemoryStep, stored, unchanged, start_on, batch_on, Did}
use Rattle.memory.proofs.Frame.{empty_bytes}
use Rattle.memory.proofs.Good.{held_of}
use Rattle.places.specs.Places.{place_length, places_in, Batched}
use Rattle.places.proofs.Rooms.{no_places, some_places, filled_none}
use Rattle.batches.specs.Steps.{pieces, Refused}
use Rattle.guard.specs.Tested.{memory_test, tests_before}

-- ---- the tests

-- only a good image has the answer 0
answer_passed : (image : List ℕ) → image_answer image ≡ 0 → good_image image ≡ true
unfolding image_answer outcome_of
answer_passed image a = go (good_image image) a
  where
    go : (b : Bool) → outcome_answer (cond b Good Bad) ≡ 0 → b ≡ true
    go true e = refl
    go false e = absurd (omega arith)

module _ (image m : List ℕ) (o : Outcome) (e : o ≡ outcome_of image) where
  image_answer_is : {p : Outcome} → o ≡ p → image_answer image ≡ outcome_answer p
  unfolding image_answer
  image_answer_is q = ap outcome_answer (sym e ∙ q)

  pub image_passes : o ≡ Good → (r : Result (Unit {0}) ℕ) → r ≡ memory_test m → r ≡ tests_before image m
  image_passes q r s = rw (image_answer_is q) s

  pub image_fails : o ≡ Bad → Err 50 ≡ tests_before image m
  image_fails q = rw (image_answer_is q) refl

pub ruleset testing = (image_passes, image_fails, rules)

-- ---- what they leave

abbrev passes : Result (Unit {0}) ℕ → Bool
passes (Ok u) = true
passes (Err a) = false

abbrev answer_of : Result (Unit {0}) ℕ → ℕ
answer_of (Ok u) = 0
answer_of (Err a) = a

-- a test that passes does not refuse
never : {R : Type 0} (t : Result (Unit {0}) ℕ) {a : ℕ} → t ≡ Err a → t ≡ Ok tt → R
never t p q = absurd (clash (ap passes q) (ap passes p))

module _ (m : List ℕ) (t : Result (Unit {0}) ℕ) (e : t ≡ memory_test m) where
  memory_good : t ≡ Ok tt → good m ≡ true
  memory_good q = by_test (good m) (λ p. p) (λ p. never t (rw p at e) q)

  memory_bad : {a : ℕ} → t ≡ Err a → (good m ≡ false) × (51 ≡ a)
  memory_bad q = by_test (good m) (λ p. never t q (rw p at e)) (λ p. let k : t ≡ Err 51 = rw p at e in (p, ap answer_of (sym k ∙ q)))

  pub memory_held : t ≡ Ok tt → Held m
  memory_held q = held_of m (memory_good q)

  pub memory_done : t ≡ Ok tt → {R : Type 0} {o : MemoryStep R} {r : R} {after : List ℕ} → Did o r after → (p : MemoryStep R)
      → Did (cond (good m) o p) r after
  memory_done q d p = rw (memory_good q) d

pub memory_refused : {R : Type 0} (refuse : ℕ → R) (m : List ℕ) (t : Result (Unit {0}) ℕ) → t ≡ memory_test m → {a : ℕ} → t ≡ Err a → {r : R} → r ≡ refuse a
    → (o : MemoryStep R) → Did (cond (good m) o (unchanged m (refuse 51))) r m
memory_refused refuse m t e q k o = let b = memory_bad m t e q in rw b.0 (record { result = k ∙ ap refuse (sym b.1); memory = refl })

-- a step under an image, by what the tests answer
abbrev tested : {R : Type 0} → (ℕ → R) → List ℕ → List ℕ → MemoryStep R → MemoryStep R
tested refuse image m o = cond (eqb (image_answer image) 0) (cond (good m) o (unchanged m (refuse 51))) (unchanged m (refuse (image_answer image)))

module _ (image m : List ℕ) (t : Result (Unit {0}) ℕ) (e : t ≡ tests_before image m) where
  image_none : t ≡ Ok tt → (eqb (image_answer image) 0 ≡ true) × (t ≡ memory_test m)
  image_none q = by_test (eqb (image_answer image) 0) (λ p. (p, rw p at e)) (λ p. never t (rw p at e) q)

  pub call_image : t ≡ Ok tt → GoodImage image
  call_image q = image_holds image (answer_passed image (eqb-true (image_answer image) 0 (image_none q).0))

  call_good : t ≡ Ok tt → good m ≡ true
  call_good q = memory_good m t (image_none q).1 q

  pub call_held : t ≡ Ok tt → Held m
  call_held q = held_of m (call_good q)

  pub call_passed : t ≡ Ok tt → {R : Type 0} (o p z : MemoryStep R) → cond (eqb (image_answer image) 0) (cond (good m) o p) z ≡ o
  call_passed q o p z = rw ((image_none q).0, call_good q) refl

  pub call_refused : {a : ℕ} → t ≡ Err a → {R : Type 0} (refuse : ℕ → R) (o : MemoryStep R) → tested refuse image m o ≡ unchanged m (refuse a)
  call_refused {a} q refuse o =
      by_test (eqb (image_answer image) 0)
      (λ p. let b = memory_bad m t (rw p at e) q in rw (p, b.0) (ap (λ (k : ℕ). unchanged m (refuse k)) b.1))
      (λ p. let k : t ≡ Err (image_answer image) = rw p at e in rw p (ap (λ (k : ℕ). unchanged m (refuse k)) (ap answer_of (sym k ∙ q))))

  pub call_done : t ≡ Ok tt → {R : Type 0} {o : MemoryStep R} {r : R} {after : List ℕ} → Did o r after → (p z : MemoryStep R)
      → Did (cond (eqb (image_answer image) 0) (cond (good m) o p) z) r after
  call_done q {o = o} d p z = rw (call_passed q o p z) d

pub image_refused : {R : Type 0} (refuse : ℕ → R) (image m : List ℕ) (t : Result (Unit {0}) ℕ) → t ≡ tests_before image m → {a : ℕ} → t ≡ Err a
    → {r : R} → r ≡ refuse a → (o : MemoryStep R) → Did (tested refuse image m o) r m
image_refused refuse image m t e q k o = rw (call_refused image m t e q refuse o) (record { result = k; memory = refl })

pub ruleset calls = (call_image, call_held, call_done, memory_held, memory_done, rules)

-- ---- batch: the room comes before both tests, and what refuses is in its one place

module _ (image m : List ℕ) (n : ℕ) (p room : List ℕ) where
  abbrev batched : Batch → List ℕ → List ℕ → Type 0
  batched r e y = Batched (batch_on image m n p (places_in room)) room r e y

  pub batch_none : length room < place_length → batched (record { written = 0; taken = 0 }) m room
  unfolding batch_on taken_by
  batch_none h =
      rw (no_places room h)
      (record { wrote = record { written = refl; memory = refl; room = sym (filled_none taken_words room) }; taken = refl })

  module _ (h : place_length ≤ length room) where
    -- a refusal with this answer
    refused_with : (a : ℕ) (r : Batch) (y : List ℕ) → Refused a room r y → Batched (unchanged m (no_piece a ∷ [])) room r m y
    unfolding taken_by
    refused_with a r y f = record { wrote = record { written = f.one; memory = refl; room = f.written }; taken = f.none }

    module _ (t : Result (Unit {0}) ℕ) (e : t ≡ tests_before image m) where
      pub batch_refused : {a : ℕ} → t ≡ Err a → (r : Batch) (y : List ℕ) → Refused a room r y → batched r m y
      unfolding batch_on
      batch_refused {a} q r y f =
          rw (some_places room h, call_refused image m t e q (λ k. no_piece k ∷ []) (stored (series (pieces image n) (places_in room) (state_of m) p)))
          (refused_with a r y f)

      pub batch_done : t ≡ Ok tt → (r : Batch) (d y : List ℕ)
          → Batched (stored (series (pieces image n) (places_in room) (state_of m) p)) room r d y
          → batched r d y
      unfolding batch_on
      batch_done q r d y f =
          let l = unchanged m (no_piece 51 ∷ []) in
          rw (
            some_places room h,
            call_passed image m t e q (stored (series (pieces image n) (places_in room) (state_of m) p)) l (unchanged m (no_piece (image_answer image) ∷ [])),
          )
          f

pub ruleset batching = (call_image, call_held, batch_none, batch_refused, batch_done, rules)

-- ---- start

pub start_refused : (m : List ℕ) → (length m ≡ memory_length → ⊥) → Did (start_on m) 51 m
unfolding start_on
start_refused m e = rw (ne_eqb (length m) memory_length e) (record { result = refl; memory = refl })

pub start_done : (m z : List ℕ) → length m ≡ memory_length → z ≡ replicate (length m) 0 → Did (start_on m) 0 z
unfolding start_on
start_done m z e q = rw (eq-eqb (length m) memory_length e) (record { result = refl; memory = q ∙ rw (e, empty_bytes) })

pub ruleset starting = (start_refused, start_done, rules)
