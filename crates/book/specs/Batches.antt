-- Worked lines of batches (rule 9.6): a peer offers a piece with so many places, and what the model reports. Everybody may send everything, as in T4.
use Rattle.std.specs.Prelude.{List, [], ◌∷◌, ◌++◌, ℕ, take}
use Rattle.rules.specs.Calls.{empty}
use Rattle.rules.specs.Places.{taken_words}
use Rattle.rules.specs.Bench.{unshown, by_rule}
use Rattle.rules.specs.declared.Taken.{Taken}
use Rattle.book.specs.Lists.{Call, starts, connects, offers, after}
use Rattle.book.specs.Hosts.{model_batch}
use Rattle.book.specs.Bench.{call_c, broken_c, allow_all, fifth, says_refused, says_to_bus}

-- the reports one behind the other, each in its seven words (rule 8.11)
abbrev pub batch_words : List Taken → List ℕ
batch_words [] = []
batch_words (t ∷ ts) = taken_words t ++ batch_words ts

-- once peer 1 has connected and these calls were made: peer n, its piece, and how many places there are
abbrev pub batch_shown : List Call × ℕ × List ℕ × ℕ → List ℕ
batch_shown q = batch_words (model_batch (after empty (starts ∷ connects allow_all 7 [] ∷ q.0)) allow_all q.1 q.2 q.3).result

-- peer 1 offers a piece, with nothing before
abbrev pub offered : List ℕ → ℕ → List Call × ℕ × List ℕ × ℕ
offered p places = ([], 1, p, places)

-- C passes, to the bus
abbrev pub passes : List ℕ
passes = says_to_bus 48 (by_rule 0)

-- ---- the table (rule 9.6)

abbrev pub batch_table : List ((List Call × ℕ × List ℕ × ℕ) × List ℕ)
batch_table =
    (offered [] 3, says_refused 10 0 unshown)
    ∷ (offered call_c 0, [])  -- without a place no call is made
    ∷ (offered (call_c ++ call_c) 1, passes)
    ∷ (offered (call_c ++ call_c) 2, passes ++ passes)
    ∷ (offered (call_c ++ call_c) 3, passes ++ passes)  -- nothing is left, and no 10 comes behind
    ∷ (offered (call_c ++ take 15 call_c) 3, passes ++ says_refused 10 15 unshown)
    ∷ (offered (call_c ++ (broken_c ++ call_c)) 3, passes ++ says_refused 1 16 unshown)  -- it ends there, though bytes are left
    ∷ (offered (fifth ++ call_c) 3, says_refused 20 16 unshown ++ passes)  -- it goes on behind 20
    ∷ (([], 2, call_c, 3), says_refused 30 0 unshown)  -- there is no such peer: one report
    ∷ ((offers allow_all 1 broken_c ∷ [], 1, call_c, 3), says_refused 40 0 unshown)  -- the stream is closed: one report
    ∷ []
