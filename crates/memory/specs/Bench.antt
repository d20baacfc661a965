-- Worked examples: an image and a memory of no bytes at all, which are both bad, and what each call answers to them (rules 8.1 and 8.2); and a peer's fields,
-- read back from its slot's bytes (rule 10.2).
use Rattle.std.specs.Prelude.{List, [], ◌∷◌, ℕ, replicate}
use Rattle.stream.specs.Tail.{tails}
use Rattle.rules.specs.Calls.{newcomer}
use Rattle.memory.specs.Layout.{slots_at}
use Rattle.memory.specs.Encoding.{pending_bytes, pending_of, peer_bytes, peer_of}
use Rattle.memory.specs.Calls.{start_on, connect_on, own_on, release_on, piece_on, disconnect_on, tick_on}

-- what is given, and what it is to be
abbrev pub memory_table : List (ℕ × ℕ)
memory_table =
    ((start_on []).result, 51)
    ∷ ((connect_on [] [] 0 []).result.answer, 50)
    ∷ ((own_on [] [] 1 []).result.answer, 50)
    ∷ ((release_on [] 1 []).result, 51)
    ∷ ((piece_on [] [] 1 []).result.judgement.answer, 50)
    ∷ ((disconnect_on [] 1).result.answer, 51)
    ∷ ((tick_on [] 0 0).result.answer, 51)
    ∷ ((tick_on (replicate slots_at 1) 0 0).result.answer, 51)
    ∷ ((pending_of (pending_bytes (record { callee = 2; serial = 9; tick = 18446744073709551615 }))).tick, 18446744073709551615)
    ∷ ((peer_of (peer_bytes (newcomer tails 1 1000 []))).number, 1)
    ∷ ((peer_of (peer_bytes (newcomer tails 1 1000 []))).uid, 1000)
    ∷ []
