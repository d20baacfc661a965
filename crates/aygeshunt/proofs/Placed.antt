-- A call with its report in a place, once over what any call reports: without a whole place nothing happens.
use Rattle.std.proofs.Common.{◌≡◌, refl, sym, ap, ◌∙◌, List, ◌++◌, ℕ, ◌≤◌, ◌<◌, length, drop, rules}
use Rattle.rules.specs.declared.Batch.{Batch}
use Rattle.rules.specs.declared.Taken.{Taken}
use Rattle.memory.specs.Calls.{MemoryStep, Did, on_place}
use Rattle.places.specs.declared.Report.{Report}
use Rattle.places.specs.Places.{place_length, place_of, places_in, report_words, Shows, Wrote, Batched}
use Rattle.places.proofs.Rooms.{no_places, some_places, filled_none, filled_one}

module _ {R : Type 0} (words : R → List ℕ) (o : MemoryStep R) (m room : List ℕ) where
  pub no_place : length room < place_length → Wrote words (on_place (places_in room) m o) room 0 m room
  unfolding on_place
  no_place h = rw (no_places room h) (record { written = refl; memory = refl; room = sym (filled_none words room) })

  pub one_place : place_length ≤ length room → (r : R) (e : List ℕ) → Did o r e → (n : Report) → Shows (words r) n → (y : List ℕ)
      → y ≡ place_of (report_words n) ++ drop place_length room
      → Wrote words (on_place (places_in room) m o) room 1 e y
  unfolding on_place
  one_place h r e d n s y w =
      let f = ap (λ (l : List ℕ). l ++ drop place_length room) (s.are ∙ ap (λ (x : R). place_of (words x)) d.result) in
      rw (some_places room h) (record { written = refl; memory = d.memory; room = w ∙ f ∙ sym (filled_one words room o.result) })

pub ruleset placing = (no_place, one_place, rules)

-- ---- a batch, of which the caller is told one number by its return and one in a place of its own

pub two_numbers : (o : MemoryStep (List Taken)) (room : List ℕ) (b : Batch) (m y : List ℕ) → Batched o room b m y
    → Batched o room (record { written = b.written; taken = b.taken }) m y
two_numbers o room b m y d = d

pub ruleset telling = (two_numbers, rules)
