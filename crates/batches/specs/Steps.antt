-- The parts of a batch: one call of it with its report in the first place of a room, and a refusal of all of it.
use Rattle.std.specs.Prelude.{List, [], ◌∷◌, ◌++◌, ◌≡◌, ℕ, ◌≤◌, length, drop}
use Rattle.stream.specs.Tail.{Tail, tails}
use Rattle.rules.specs.State.{State}
use Rattle.rules.specs.Calls.{Step, piece, no_piece}
use Rattle.rules.specs.Places.{taken_words}
use Rattle.rules.specs.declared.Taken.{Taken}
use Rattle.rules.specs.declared.Batch.{Batch}
use Rattle.memory.specs.Calls.{Did, stored}
use Rattle.memory.specs.Encoding.{state_of}
use Rattle.places.specs.Places.{place_of, place_length, filled}

-- the calls that a batch of this peer makes
abbrev pub pieces : List ℕ → ℕ → State Tail → List ℕ → Step Tail Taken
pieces image n s p = piece tails image s n p

-- one call, with its report in the room's first place
pub record Stepped (image : List ℕ) (n : ℕ) (m p room : List ℕ) (t : Taken) (e y : List ℕ) : Type 0 where
  pub did : Did (stored (pieces image n (state_of m) p)) t e
  pub within : t.taken ≤ length p
  pub written : y ≡ place_of (taken_words t) ++ drop place_length room

-- one place for all calls
pub record Refused (a : ℕ) (room : List ℕ) (r : Batch) (y : List ℕ) : Type 0 where
  pub one : r.written ≡ 1
  pub none : r.taken ≡ 0
  pub written : y ≡ filled taken_words (no_piece a ∷ []) room
