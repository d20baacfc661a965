-- One call of a batch, and a refusal of all of it: the report is in the room's first place.
use Rattle.std.proofs.Common.{◌≡◌, refl, sym, ap, ◌∙◌, List, ◌++◌, ℕ, drop, rules}
use Rattle.stream.specs.Tail.{tails}
use Rattle.rules.specs.Calls.{no_piece}
use Rattle.rules.specs.Places.{taken_words}
use Rattle.rules.specs.declared.Taken.{Taken}
use Rattle.rules.proofs.Series.{piece_within}
use Rattle.memory.specs.Encoding.{state_of}
use Rattle.memory.specs.Calls.{Did, stored}
use Rattle.places.specs.declared.Report.{Report}
use Rattle.places.specs.Places.{place_of, place_length, report_words, Shows}
use Rattle.places.proofs.Rooms.{filled_one}
use Rattle.batches.specs.Steps.{pieces, Stepped, Refused}

module _ (room y : List ℕ) (t : Taken) (r : Report) (s : Shows (taken_words t) r) (w : y ≡ place_of (report_words r) ++ drop place_length room) where
  shown : y ≡ place_of (taken_words t) ++ drop place_length room
  shown = w ∙ ap (λ (l : List ℕ). l ++ drop place_length room) s.are

  pub step_done : (image : List ℕ) (n : ℕ) (m p e : List ℕ) → Did (stored (pieces image n (state_of m) p)) t e → Stepped image n m p room t e y
  step_done image n m p e d = record { did = d; within = rw d.result (piece_within tails image p (state_of m) n); written = shown }

  pub refused_done : (a : ℕ) → t ≡ no_piece a → Refused a room (record { written = 1; taken = 0 }) y
  refused_done a e = record { one = refl; none = refl; written = rw e at (shown ∙ sym (filled_one taken_words room t)) }

pub ruleset stepping = (step_done, refused_done, rules)
