-- Reports in a lent room: each in a place of seven little-endian numbers, one behind the other (rules 8.11 and 9.6).
use Rattle.std.specs.Prelude.{List, [], ◌∷◌, ◌++◌, ◌≡◌, ℕ, ◌*◌, ◌/◌, length, drop}
use Rattle.wire.specs.Words.{word_bytes}
use Rattle.tables.specs.Tables.{cells}
use Rattle.rules.specs.Places.{taken_words}
use Rattle.rules.specs.Series.{taken_by}
use Rattle.rules.specs.declared.Taken.{Taken}
use Rattle.rules.specs.declared.Batch.{Batch}
use Rattle.memory.specs.Calls.{MemoryStep}
use Rattle.places.specs.declared.Report.{Report}

-- seven numbers of four bytes (rule 8.11)
abbrev pub place_length : ℕ
place_length = 28

-- the bytes of a place that has these numbers (rule 8.11)
unfoldable pub place_of : List ℕ → List ℕ
place_of ws = cells word_bytes ws

-- the whole places of a room; what is left over is none (rules 8.11 and 9.6)
abbrev pub places_in : List ℕ → ℕ
places_in room = length room / place_length

-- the room with reports in its first places; what is behind them keeps its bytes (rules 8.11 and 9.6)
unfoldable pub filled : {R : Type 0} → (R → List ℕ) → List R → List ℕ → List ℕ
filled words rs room = cells (λ r. place_of (words r)) rs ++ drop (place_length * length rs) room

-- what a call's `ensures` says where reports go to places: how many were written, and every byte of memory and of the room (rule 8.11)
pub record Wrote {R : Type 0} (words : R → List ℕ) (o : MemoryStep (List R)) (x : List ℕ) (k : ℕ) (m y : List ℕ) : Type 0 where
  pub written : k ≡ length o.result
  pub memory : m ≡ o.memory
  pub room : y ≡ filled words o.result x

-- the same of a batch, which also says how many bytes were taken in all (rule 9.6)
pub record Batched (o : MemoryStep (List Taken)) (room : List ℕ) (r : Batch) (m y : List ℕ) : Type 0 where
  pub wrote : Wrote taken_words o room r.written m y
  pub taken : r.taken ≡ taken_by o.result

-- ---- a report's numbers

abbrev pub report_words : Report → List ℕ
report_words r = r.answer ∷ r.taken ∷ r.kind ∷ r.number ∷ r.count ∷ r.rule.kind ∷ r.rule.position ∷ []

-- the report has these numbers, as far as four bytes each hold them
pub record Shows (ws : List ℕ) (r : Report) : Type 0 where
  pub are : place_of (report_words r) ≡ place_of ws
