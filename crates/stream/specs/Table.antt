-- Worked examples of streams, T1, T2 and T5 among them. Of a piece offered to a stream that has taken some bytes: the answer, how many bytes the piece
-- loses (rules 9.1 and 9.2), and how many bytes of the head are kept then (rule 9.4). Of a count and a head in memory: 1 where they are good, else 0
-- (rule 10.4).
use Rattle.std.specs.Prelude.{cond, List, [], ◌∷◌, ◌++◌, ℕ, take, drop, set, length}
use Rattle.wire.specs.Bytes.{byte, bytes}
use Rattle.wire.specs.declared.Order.TheVariants.{Little}
use Rattle.header.specs.Table.{call_cIn}
use Rattle.stream.specs.Stream.{Offer, offer, verdict_answer}
use Rattle.stream.specs.Tail.{Tail, fresh, tails, good_tail}

-- a piece behind bytes that were taken; a stream in memory
pub data StreamQuestion : Type 0 where
  piece_behind : List ℕ → List ℕ → StreamQuestion
  stored_as : ℕ → List ℕ → StreamQuestion

abbrev pub StreamRow : Type 0
StreamRow = StreamQuestion × List ℕ

abbrev C : List ℕ
C = call_cIn Little

-- the same call with a body of four bytes
abbrev bodied : List ℕ
bodied = set C 4 4

abbrev pub stream_table : List StreamRow
stream_table =
    (piece_behind [] [], 10 ∷ 0 ∷ 0 ∷ [])  -- T1
    ∷ (piece_behind (take 20 C) [], 10 ∷ 0 ∷ 20 ∷ [])
    ∷ (piece_behind [] (take 15 C), 10 ∷ 15 ∷ 15 ∷ [])  -- T2
    ∷ (piece_behind [] (take 15 (set C 0 (byte "L"))), 10 ∷ 15 ∷ 15 ∷ [])  -- 1 is not found before byte 16
    ∷ (piece_behind [] (set C 0 (byte "L")), 1 ∷ 16 ∷ 16 ∷ [])  -- T5
    ∷ (stored_as 16 (take 16 (set C 0 (byte "L"))), 1 ∷ [])
    ∷ (stored_as 17 (take 17 (set C 0 (byte "L"))), 0 ∷ [])
    ∷ (stored_as 47 (take 47 C), 1 ∷ [])
    ∷ (stored_as 48 C, 0 ∷ [])  -- it would have been judged
    ∷ (stored_as 51 bodied, 1 ∷ [])
    ∷ (piece_behind (take 15 C) (drop 15 C), 0 ∷ 33 ∷ 48 ∷ [])
    ∷ (piece_behind [] (take 47 (set C 31 1)), 10 ∷ 47 ∷ 47 ∷ [])  -- nor 7 before the head's last byte
    ∷ (piece_behind [] (set C 31 1 ++ bytes "body"), 7 ∷ 48 ∷ 48 ∷ [])
    ∷ (piece_behind [] (C ++ C), 0 ∷ 48 ∷ 48 ∷ [])  -- at most one message
    ∷ (piece_behind [] (bodied ++ bytes "bod"), 10 ∷ 51 ∷ 48 ∷ [])
    ∷ (piece_behind (bodied ++ bytes "bod") (bytes "yl"), 0 ∷ 1 ∷ 48 ∷ [])
    ∷ []

abbrev offer_shown : Offer Tail → List ℕ
offer_shown o = verdict_answer o.verdict ∷ o.taken ∷ length o.stream.head ∷ []

abbrev pub stream_answer : StreamQuestion → List ℕ
stream_answer (piece_behind before piece) = offer_shown (offer tails (offer tails fresh before).stream piece)
stream_answer (stored_as taken head) = cond (good_tail (record { taken = taken; head = head })) 1 0 ∷ []
