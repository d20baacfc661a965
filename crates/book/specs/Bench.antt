-- The worked table, T1 to T12 (rule 13.1), as one table over the rules: calls and what the model answers to the last of them, and texts and whether they
-- are signatures.
use Rattle.std.specs.Prelude.{List, [], ◌∷◌, ◌++◌, ℕ, take, set, replicate}
use Rattle.wire.specs.Bytes.{byte, bytes}
use Rattle.wire.specs.Words.{word_bytes}
use Rattle.signature.specs.Signature.{valid_signature}
use Rattle.image.specs.Table.{image_of, head, cites}
use Rattle.rules.specs.Judge.{bit, refusal}
use Rattle.rules.specs.Calls.{empty}
use Rattle.rules.specs.Places.{receiver_words, shown_words, goes_on}
use Rattle.rules.specs.Bench.{unshown, by_rule, by_none}
use Rattle.rules.specs.declared.Taken.{Taken}
use Rattle.book.specs.Lists.{Call, starts, connects, claims, offers, ticks, Answer, plain, connected, owned, taken, gone, ticked, answers}
use Rattle.book.specs.Book.{books}
use Rattle.book.specs.Split.{is_verdict}

-- ---- messages

-- call C (rule 13.1): 6c 01 00 01 00 00 00 00 01 00 00 00 1a 00 00 00, 01 01 6f 00 01 00 00 00 2f 00 .., 03 01 73 00 01 00 00 00 4d 00 ..
abbrev pub call_c : List ℕ
call_c =
    byte "l" ∷ 1 ∷ 0 ∷ 1 ∷ 0 ∷ 0 ∷ 0 ∷ 0 ∷ 1 ∷ 0 ∷ 0 ∷ 0 ∷ 26 ∷ 0 ∷ 0 ∷ 0
    ∷ 1 ∷ 1 ∷ byte "o" ∷ 0 ∷ 1 ∷ 0 ∷ 0 ∷ 0 ∷ byte "/" ∷ 0 ∷ 0 ∷ 0 ∷ 0 ∷ 0 ∷ 0 ∷ 0
    ∷ 3 ∷ 1 ∷ byte "s" ∷ 0 ∷ 1 ∷ 0 ∷ 0 ∷ 0 ∷ byte "M" ∷ 0 ∷ 0 ∷ 0 ∷ 0 ∷ 0 ∷ 0 ∷ 0 ∷ []

-- C with a head that is broken by its first byte
abbrev pub broken_c : List ℕ
broken_c = set call_c 0 (byte "L")

-- C with a destination of seven bytes behind it, and so an array of 48
abbrev pub call_to : List ℕ → List ℕ
call_to name = set call_c 12 48 ++ ((6 ∷ 1 ∷ byte "s" ∷ 0 ∷ word_bytes 7) ++ (name ++ (0 ∷ [])))

-- the first 16 bytes of a message: type, body length, array length
abbrev pub little_fixed : ℕ → ℕ → ℕ → List ℕ
little_fixed kind body array = byte "l" ∷ kind ∷ 0 ∷ 1 ∷ (word_bytes body ++ (word_bytes 1 ++ word_bytes array))

-- ---- images, all with a connect rule that allows everybody

abbrev pub open_image : List ℕ → List ℕ → List ℕ → List ℕ
open_image owns transactions strings = image_of (head 0 1 0 0 0) owns transactions strings

abbrev pub no_rules : List ℕ
no_rules = open_image [] [] []

-- a transaction rule of a context, verdict, direction and subject about the name at an offset, or any
abbrev pub transaction_rule_of : ℕ → ℕ → ℕ → ℕ → ℕ → ℕ → List ℕ
transaction_rule_of context verdict direction subject offset len = head context verdict direction 0 subject ++ (cites offset len ++ replicate 24 0)

-- an own rule of a context, verdict, matcher and subject about the name at an offset, or any
abbrev pub own_rule_of : ℕ → ℕ → ℕ → ℕ → ℕ → ℕ → List ℕ
own_rule_of context verdict matcher subject offset len = head context verdict matcher 0 subject ++ cites offset len

-- T4: one transaction rule, that everybody may send anything
abbrev pub allow_all : List ℕ
allow_all = open_image [] (transaction_rule_of 0 1 0 0 0 0) []

-- T8: nobody may, and behind that user 7 may
abbrev pub deny_first : List ℕ
deny_first = open_image (own_rule_of 3 0 0 0 0 0 ++ own_rule_of 2 1 0 7 0 0) (transaction_rule_of 3 0 0 0 0 0 ++ transaction_rule_of 2 1 0 7 0 0) []

-- the user allow alone
abbrev pub user_allow : List ℕ
user_allow = open_image [] (transaction_rule_of 2 1 0 7 0 0) []

-- T9: everybody may own what is under one prefix
abbrev pub prefix : List ℕ
prefix = open_image (own_rule_of 0 1 2 0 0 7) [] (bytes "org.foo")

-- everybody may own and receive; then two send rules about the names `org.a.x` and `org.b.y`
abbrev pub two_rules : List ℕ → List ℕ → List ℕ
two_rules earlier later = open_image (own_rule_of 0 1 0 0 0 0) (transaction_rule_of 0 1 1 0 0 0 ++ (earlier ++ later)) (bytes "org.a.xorg.b.y")

-- T12: send to an owner of the first is allowed, and behind that to one of the second denied
abbrev pub allow_deny : List ℕ
allow_deny = two_rules (transaction_rule_of 0 1 0 0 0 7) (transaction_rule_of 0 0 0 0 7 7)

abbrev pub deny_allow : List ℕ
deny_allow = two_rules (transaction_rule_of 0 0 0 0 7 7) (transaction_rule_of 0 1 0 0 0 7)

-- a verdict on all that is sent, and behind that a rule of a verdict and direction about the interface `org.a.x` and a member at an offset, or any
abbrev pub interface_rule : ℕ → ℕ → ℕ → ℕ → ℕ → List ℕ
interface_rule all verdict direction offset len =
    two_rules (transaction_rule_of 0 all 0 0 0 0) (head 0 verdict direction 0 0 ++ (cites 0 0 ++ (cites 0 0 ++ (cites 0 7 ++ cites offset len))))

-- ---- questions

pub data WorkedQuestion : Type 0 where
  -- of the last of these calls
  asks : List Call → WorkedQuestion
  -- is the text a signature
  types : List ℕ → WorkedQuestion
  -- an answer to so many bytes, of which so many were taken: does the offering go on, and is it a verdict
  answered : ℕ → ℕ → ℕ → WorkedQuestion
  -- of a stream with these bytes: is it closed, and how many bytes would a disconnect report
  holds : List ℕ → WorkedQuestion

-- a started guard with one peer, of user 7 under that image, which offers a piece
abbrev pub sends : List ℕ → List ℕ → WorkedQuestion
sends image piece = asks (starts ∷ connects image 7 [] ∷ offers image 1 piece ∷ [])

-- the same peer goes on with another piece
abbrev pub sends_then : List ℕ → List ℕ → WorkedQuestion
sends_then piece later = asks (starts ∷ connects no_rules 7 [] ∷ offers no_rules 1 piece ∷ offers no_rules 1 later ∷ [])

-- the same peer asks for a name
abbrev pub owning : List ℕ → List ℕ → WorkedQuestion
owning image name = asks (starts ∷ connects image 7 [] ∷ claims image 1 name ∷ [])

-- T12: peer 2 owns two names, and peer 1 calls it by one of them
abbrev pub call_between : List ℕ → List ℕ → WorkedQuestion
call_between image name =
    asks
    (starts ∷ connects image 7 [] ∷ connects image 8 [] ∷ claims image 2 (bytes "org.a.x") ∷ claims image 2 (bytes "org.b.y") ∷ offers image 1 (call_to name)
    ∷ [])

-- ---- answers as numbers; who decided are the last two of those that show it

abbrev pub answer_shown : Answer → List ℕ
answer_shown (plain a) = a ∷ []
answer_shown (connected r) = r.answer ∷ r.number ∷ r.slot ∷ shown_words r.rule
answer_shown (owned r) = r.answer ∷ shown_words r.rule
answer_shown (taken r) = r.judgement.answer ∷ r.taken ∷ (receiver_words r.judgement.receiver ++ shown_words r.judgement.rule)
answer_shown (gone r) = r.answer ∷ r.bytes ∷ []
answer_shown (ticked r) = r.answer ∷ r.ended ∷ []

abbrev pub last_of : List Answer → List ℕ
last_of [] = []
last_of (a ∷ []) = answer_shown a
last_of (a ∷ c ∷ l) = last_of (c ∷ l)

abbrev pub worked_answer : WorkedQuestion → List ℕ
worked_answer (asks cs) = last_of (answers empty cs)
worked_answer (types s) = bit (valid_signature s) ∷ []
worked_answer (answered a n k) =
    let r : Taken = record { judgement = refusal a; taken = n } in
    bit (goes_on r (replicate k 0)) ∷ bit (is_verdict a) ∷ []
worked_answer (holds xs) = bit (books.closed xs) ∷ books.count xs ∷ []

-- an answer with the bytes taken, for nobody, the bus and a peer, and with who decided
abbrev pub says_refused : ℕ → ℕ → List ℕ → List ℕ
says_refused a n who = a ∷ n ∷ 0 ∷ 0 ∷ 0 ∷ who

abbrev pub says_to_bus : ℕ → List ℕ → List ℕ
says_to_bus n who = 0 ∷ n ∷ 1 ∷ 0 ∷ 0 ∷ who

abbrev pub says_to_peer : ℕ → ℕ → List ℕ → List ℕ
says_to_peer n number who = 0 ∷ n ∷ 2 ∷ number ∷ 0 ∷ who

abbrev pub says_good : List ℕ
says_good = 1 ∷ []

abbrev pub says_bad : List ℕ
says_bad = 0 ∷ []

-- ---- the table (rule 13.1)

abbrev pub WorkedRow : Type 0
WorkedRow = WorkedQuestion × List ℕ

abbrev pub worked_table : List WorkedRow
worked_table =
    (sends no_rules [], says_refused 10 0 unshown)  -- T1
    ∷ (sends no_rules (take 15 call_c), says_refused 10 15 unshown)  -- T2
    ∷ (sends no_rules call_c, says_refused 22 48 by_none)  -- T3
    ∷ (sends allow_all call_c, says_to_bus 48 (by_rule 0))  -- T4
    ∷ (sends no_rules broken_c, says_refused 1 16 unshown)  -- T5: byte 0 as 4c
    ∷ (sends no_rules (little_fixed 1 0 2032), says_refused 10 16 unshown)  -- T6
    ∷ (sends no_rules (little_fixed 1 0 2033), says_refused 5 16 unshown)
    ∷ (sends no_rules (little_fixed 5 134217712 0), says_refused 10 16 unshown)  -- T7
    ∷ (sends no_rules (little_fixed 5 134217713 0), says_refused 6 16 unshown)
    ∷ (sends deny_first call_c, says_refused 22 48 (by_rule 0))  -- T8: of send, and of own; the deny decides, not the allow behind it
    ∷ (owning deny_first (bytes "org.foo"), 32 ∷ by_rule 0)
    ∷ (sends user_allow call_c, says_to_bus 48 (by_rule 0))  -- without the deny it passes
    ∷ (owning prefix (bytes "org.foo"), 0 ∷ by_rule 0)  -- T9
    ∷ (owning prefix (bytes "org.foo.bar"), 0 ∷ by_rule 0)
    ∷ (owning prefix (bytes "org.foobar"), 32 ∷ by_none)
    ∷ (types (bytes ""), says_good)  -- T10
    ∷ (types (bytes "a{sv}"), says_good)
    ∷ (types (bytes "{sv}"), says_bad)
    ∷ (types (bytes "()"), says_bad)
    ∷ (types (bytes "a"), says_bad)
    ∷ (types (bytes "a{vs}"), says_bad)
    ∷ (types (replicate 32 (byte "a") ++ bytes "y"), says_good)  -- T11
    ∷ (types (replicate 33 (byte "a") ++ bytes "y"), says_bad)
    ∷ (call_between allow_deny (bytes "org.b.y"), says_refused 22 64 (by_rule 2))  -- T12: the receive rule is counted too
    ∷ (call_between allow_deny (bytes "org.a.x"), says_refused 22 64 (by_rule 2))  -- whichever name is addressed
    ∷ (call_between deny_allow (bytes "org.b.y"), says_to_peer 64 2 (by_rule 0))  -- the rules the other way round: it passes by the receive rule
    ∷ []

-- ---- more lines: calls without an interface, several messages on one stream, a second start, the ends of an offering, and who decided

-- a whole message of type 5, and one that is broken by its type
abbrev pub fifth : List ℕ
fifth = little_fixed 5 0 0

abbrev pub typeless : List ℕ
typeless = little_fixed 0 0 0

-- a signal from / of the interface i.f and the member M, to everybody
abbrev pub signal_to_all : List ℕ
signal_to_all =
    little_fixed 4 0 42
    ++ ((1 ∷ 1 ∷ byte "o" ∷ 0 ∷ word_bytes 1) ++ (byte "/" ∷ replicate 7 0)
    ++ ((2 ∷ 1 ∷ byte "s" ∷ 0 ∷ word_bytes 3) ++ (bytes "i.f" ++ replicate 5 0)
    ++ ((3 ∷ 1 ∷ byte "s" ∷ 0 ∷ word_bytes 1) ++ (byte "M" ∷ replicate 7 0))))

-- nobody may connect
abbrev pub no_rules_at_all : List ℕ
no_rules_at_all = image_of [] [] [] []

-- everybody may own and send, and nobody receive
abbrev pub send_only : List ℕ
send_only = open_image (own_rule_of 0 1 0 0 0 0) (transaction_rule_of 0 1 0 0 0 0) []

abbrev pub further_rows : List WorkedRow
further_rows =
    (answered 10 48 48, 0 ∷ 0 ∷ [])  -- nothing is left (rule 9.5); no verdict is due yet (rule 12.2)
    ∷ (answered 22 48 50, 1 ∷ 1 ∷ [])  -- what is left is offered
    ∷ (answered 0 48 48, 0 ∷ 1 ∷ [])
    ∷ (answered 1 16 48, 0 ∷ 1 ∷ [])  -- 1 to 9 end it
    ∷ (answered 9 48 50, 0 ∷ 1 ∷ [])
    ∷ (answered 20 48 50, 1 ∷ 1 ∷ [])
    ∷ (answered 26 48 50, 1 ∷ 1 ∷ [])
    ∷ (answered 30 0 50, 0 ∷ 0 ∷ [])  -- and 30 to 51
    ∷ (answered 51 0 50, 0 ∷ 0 ∷ [])
    ∷ (holds typeless, 1 ∷ 16 ∷ [])  -- a broken head closes its stream (rule 9.3), and is counted (rule 8.7)
    ∷ (holds (fifth ++ take 10 fifth), 0 ∷ 10 ∷ [])  -- so is an unfinished message
    ∷ (holds fifth, 0 ∷ 0 ∷ [])  -- and nothing between two
    ∷ (asks (starts ∷ connects no_rules 7 [] ∷ starts ∷ connects no_rules 7 [] ∷ []), 0 ∷ 1 ∷ 0 ∷ by_rule 0)  -- a start gives numbers anew (rule 8.2)
    ∷ (sends no_rules (little_fixed 5 8 0 ++ replicate 8 0), says_refused 20 24 unshown)  -- a message is its head and its body (rule 2.3)
    ∷ (sends_then fifth typeless, says_refused 3 16 unshown)  -- the second message is judged by its own head (rule 11.2)
    ∷ (sends_then typeless fifth, says_refused 40 0 unshown)  -- a broken stream is closed (rule 9.3)
    ∷ (call_between (interface_rule 1 0 0 0 0) (bytes "org.b.y"), says_refused 22 64 (by_rule 2))  -- C has no interface, and to send one is denied (rule 6.8)
    ∷ (sends (interface_rule 1 0 0 0 0) call_c, says_refused 22 48 (by_rule 2))  -- to the bus too
    ∷ (call_between (interface_rule 1 0 1 0 0) (bytes "org.b.y"), says_refused 23 64 (by_rule 2))  -- and so is to receive one
    ∷ (call_between (interface_rule 1 0 0 6 1) (bytes "org.b.y"), says_to_peer 64 2 (by_rule 0))  -- but not with another member, `x`
    ∷ (call_between (interface_rule 0 1 0 0 0) (bytes "org.b.y"), says_refused 22 64 (by_rule 1))  -- an allow for an interface does not let C in
    ∷ (call_between send_only (bytes "org.b.y"), says_refused 23 64 by_none)  -- no rule lets it be received (rule 7.12)
    ∷ (sends (interface_rule 1 0 0 6 1) signal_to_all, 0 ∷ 64 ∷ 3 ∷ 1 ∷ 1 ∷ unshown)  -- of a broadcast no rule is shown
    ∷ (asks (starts ∷ connects prefix 7 [] ∷ claims prefix 1 (bytes "org.foo") ∷ claims prefix 1 (bytes "org.foo") ∷ []), 0 ∷ by_rule 0)  -- held already
    ∷ (asks (starts ∷ connects no_rules_at_all 7 [] ∷ []), 36 ∷ 0 ∷ 0 ∷ by_none)
    ∷ (asks (starts ∷ ticks 5 0 ∷ ticks 4 0 ∷ []), 41 ∷ 0 ∷ [])  -- a tick does not go back (rule 8.12)
    ∷ (asks (starts ∷ ticks 5 0 ∷ ticks 5 0 ∷ []), 0 ∷ 0 ∷ [])  -- but may come again
    ∷ (asks (starts ∷ ticks 5 0 ∷ starts ∷ ticks 4 0 ∷ []), 0 ∷ 0 ∷ [])  -- and a start goes back to 0 (rule 8.2)
    ∷ []
