-- Worked lines of the tally (rule 12.4): lists of calls, and what each says of one peer's pending calls. Peers 1 and 2 may send and receive everything.
use Rattle.std.specs.Prelude.{List, [], ◌∷◌, ◌++◌, ℕ, ◌+◌, take, drop}
use Rattle.wire.specs.Bytes.{byte, bytes}
use Rattle.wire.specs.Words.{word_bytes}
use Rattle.book.specs.Lists.{Call, starts, connects, offers, leaves, ticks}
use Rattle.book.specs.Tally.{since}
use Rattle.book.specs.Bench.{call_c, open_image, transaction_rule_of}

-- ---- messages

-- the first 16 bytes: type, flags, serial, array length
abbrev pub fixed_of : ℕ → ℕ → ℕ → ℕ → List ℕ
fixed_of kind flags serial array = byte "l" ∷ kind ∷ flags ∷ 1 ∷ (word_bytes 0 ++ (word_bytes serial ++ word_bytes array))

-- the destination `:1.N`, and zeros up to 16 bytes
abbrev pub to_number : ℕ → List ℕ
to_number n = 6 ∷ 1 ∷ byte "s" ∷ 0 ∷ (word_bytes 4 ++ (bytes ":1." ++ ((byte "0" + n) ∷ 0 ∷ 0 ∷ 0 ∷ 0 ∷ [])))

-- a call of these flags and this serial, with the path and member of C
abbrev pub call_message : ℕ → ℕ → ℕ → List ℕ
call_message flags serial n = fixed_of 1 flags serial 45 ++ (drop 16 call_c ++ to_number n)

-- a return to that serial
abbrev pub return_message : ℕ → ℕ → List ℕ
return_message serial n = fixed_of 2 0 1 21 ++ ((5 ∷ 1 ∷ byte "u" ∷ 0 ∷ word_bytes serial) ++ to_number n)

-- ---- calls

abbrev pub allow_both : List ℕ
allow_both = open_image [] (transaction_rule_of 0 1 0 0 0 0 ++ transaction_rule_of 0 1 1 0 0 0) []

abbrev pub joins : Call
joins = connects allow_both 7 []

-- peer k sends a message
abbrev pub says : ℕ → List ℕ → Call
says k message = offers allow_both k message

-- peer 1 has called peer 2 at tick 0 and again at tick 3
abbrev pub older_younger : List Call → List Call
older_younger cs = says 1 (call_message 0 1 2) ∷ ticks 3 9 ∷ says 1 (call_message 0 2 2) ∷ cs

-- ---- lines

-- what calls say of peer n, once two peers have connected
abbrev pub tally_shown : ℕ × List Call → List ℕ
tally_shown q = let t = since q.0 (starts ∷ joins ∷ joins ∷ q.1) in t.admitted ∷ t.replied ∷ t.otherwise ∷ []

abbrev pub tally_table : List ((ℕ × List Call) × List ℕ)
tally_table =
    ((1, says 1 (call_message 1 1 2) ∷ []), 0 ∷ 0 ∷ 0 ∷ [])  -- no reply is expected
    ∷ ((1, says 1 (take 20 (call_message 2 1 2)) ∷ says 1 (drop 20 (call_message 2 1 2)) ∷ []), 1 ∷ 0 ∷ 0 ∷ [])  -- one is, and a message counts, not its pieces
    ∷ ((1, says 1 (call_message 0 1 2) ∷ says 1 (call_message 0 1 2) ∷ []), 1 ∷ 0 ∷ 0 ∷ [])  -- the second is 25
    ∷ ((1, says 1 (call_message 0 1 2) ∷ says 2 (return_message 1 1) ∷ []), 1 ∷ 1 ∷ 0 ∷ [])
    ∷ ((2, says 1 (call_message 0 1 2) ∷ says 2 (return_message 1 1) ∷ []), 0 ∷ 0 ∷ 0 ∷ [])  -- neither is the callee's
    ∷ ((1, says 1 (call_message 0 1 1) ∷ says 1 (return_message 1 1) ∷ []), 1 ∷ 1 ∷ 0 ∷ [])  -- a call to oneself is one
    ∷ ((1, says 1 (call_message 0 1 2) ∷ leaves 2 ∷ []), 1 ∷ 0 ∷ 1 ∷ [])  -- its callee leaves
    ∷ ((1, says 1 (call_message 0 1 2) ∷ says 1 (call_message 0 2 2) ∷ says 2 (return_message 1 1) ∷ leaves 2 ∷ []), 2 ∷ 1 ∷ 1 ∷ [])  -- after one reply
    ∷ ((1, says 1 (call_message 0 1 1) ∷ leaves 2 ∷ []), 1 ∷ 0 ∷ 0 ∷ [])  -- another leaves
    ∷ ((1, says 1 (call_message 0 1 2) ∷ starts ∷ joins ∷ []), 0 ∷ 0 ∷ 0 ∷ [])  -- a start begins anew
    ∷ ((3, says 1 (call_message 0 1 2) ∷ leaves 1 ∷ joins ∷ []), 0 ∷ 0 ∷ 0 ∷ [])  -- so does a newcomer, in the same slot
    ∷ ((1, says 1 (call_message 0 1 2) ∷ ticks 5 5 ∷ []), 1 ∷ 0 ∷ 1 ∷ [])  -- it expires
    ∷ ((1, says 1 (call_message 0 1 2) ∷ ticks 4 5 ∷ []), 1 ∷ 0 ∷ 0 ∷ [])  -- not one tick before
    ∷ ((2, says 1 (call_message 0 1 2) ∷ ticks 5 5 ∷ []), 0 ∷ 0 ∷ 0 ∷ [])  -- nor for the callee
    ∷ ((1, says 1 (call_message 0 1 2) ∷ ticks 5 5 ∷ says 1 (call_message 0 1 2) ∷ []), 2 ∷ 0 ∷ 1 ∷ [])  -- and may wait again
    ∷ ((1, older_younger (ticks 5 5 ∷ says 2 (return_message 1 1) ∷ says 2 (return_message 2 1) ∷ [])), 2 ∷ 1 ∷ 1 ∷ [])  -- the older of two to one callee expires, and a late reply counts for nothing; the younger is replied to
    ∷ ((1, older_younger (ticks 2 0 ∷ [])), 2 ∷ 0 ∷ 0 ∷ [])  -- a tick that is refused counts nothing
    ∷ []
