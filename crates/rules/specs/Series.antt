-- Calls with a piece one after the other, each with what the last has left, as long as there are places for their reports (rule 9.6).
use Rattle.std.specs.Prelude.{true, false, List, [], ◌∷◌, ℕ, zero, suc, ◌+◌, drop}
use Rattle.rules.specs.State.{State}
use Rattle.rules.specs.Calls.{Step, stays}
use Rattle.rules.specs.Places.{goes_on}
use Rattle.rules.specs.declared.Taken.{Taken}

-- what a first call reported, and then what the calls behind it did
abbrev pub behind_first : {S : Type 0} → Taken → Step S (List Taken) → Step S (List Taken)
behind_first t l = record { state = l.state; result = t ∷ l.result }

-- at most k calls with a piece: it ends early where an offering ends (rules 9.5 and 9.6)
unfoldable pub series : {S : Type 0} → (State S → List ℕ → Step S Taken) → ℕ → State S → List ℕ → Step S (List Taken)
series call zero s p = stays s []
series call (suc k) s p =
    let z = call s p in
    elim (goes_on z.result p) [
      | true ↦ behind_first z.result (series call k z.state (drop z.result.taken p))
      | false ↦ behind_first z.result (stays z.state [])
    ]

-- the bytes that they took, together (rule 9.6)
unfoldable pub taken_by : List Taken → ℕ
taken_by [] = 0
taken_by (t ∷ ts) = t.taken + taken_by ts
