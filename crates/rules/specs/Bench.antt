-- Worked examples of the judgement and of the calls, as a table of seven parts. Peers 1 and 2 are in the first two of sixteen slots, and streams are
-- made up: they count their bytes, and the third one breaks the message.
use Rattle.std.specs.Prelude.{cond, List, [], ◌∷◌, ◌++◌, ℕ, zero, suc, eqb, length, replicate}
use Rattle.wire.specs.Bytes.{bytes}
use Rattle.header.specs.Codes.{call, return, error, signal}
use Rattle.header.specs.Fields.{absent}
use Rattle.header.specs.declared.Header.{Header}
use Rattle.policy.specs.Names.{bus_name}
use Rattle.policy.specs.Decisions.{send, receive}
use Rattle.policy.specs.Table.{cites_none, cites_interface, connect_rule_bytes, own_rule_bytes, transaction_rule_bytes, image_of_rules}
use Rattle.stream.specs.Stream.{more, broken, Streams}
use Rattle.rules.specs.State.{free, peer, Peer, Pending, State}
use Rattle.rules.specs.Judge.{Judged, refusal, bit, judged}
use Rattle.rules.specs.Calls.{Step, empty, connect, own, release, piece, disconnect, tick}
use Rattle.rules.specs.Places.{receiver_words, shown_words, goes_on}
use Rattle.rules.specs.declared.Connected.{Connected}
use Rattle.rules.specs.declared.Owned.{Owned}
use Rattle.rules.specs.declared.Taken.{Taken}
use Rattle.rules.specs.declared.Gone.{Gone}
use Rattle.rules.specs.declared.Ticked.{Ticked}

-- ---- images

abbrev pub image_of_nothing : List ℕ
image_of_nothing = image_of_rules [] [] []

-- everybody may connect, and own any name
abbrev pub may_join : List ℕ
may_join = image_of_rules (connect_rule_bytes 0 1 0 0) (own_rule_bytes 0 1 0 0 cites_none) []

-- the same, and behind it both are denied to the user 7
abbrev pub all_but_seven : List ℕ
all_but_seven =
    image_of_rules (connect_rule_bytes 0 1 0 0 ++ connect_rule_bytes 0 0 1 7) (own_rule_bytes 0 1 0 0 cites_none ++ own_rule_bytes 2 0 0 7 cites_none) []

-- everybody may do that with any message
abbrev pub allow : ℕ → List ℕ
allow direction = transaction_rule_bytes 0 1 direction 0 0 cites_none cites_none cites_none cites_none

abbrev pub send_only : List ℕ
send_only = image_of_rules [] [] (allow send)

abbrev pub receive_only : List ℕ
receive_only = image_of_rules [] [] (allow receive)

abbrev pub both : List ℕ
both = image_of_rules [] [] (allow send ++ allow receive)

-- everything is allowed, and behind that one interface denied in a direction
abbrev pub all_but_interface : ℕ → List ℕ
all_but_interface direction =
    image_of_rules [] [] (allow send ++ allow receive ++ transaction_rule_bytes 0 0 direction 0 0 cites_none cites_none cites_interface cites_none)

-- ---- states

abbrev pub counter : Streams ℕ
counter =
    record {
      fresh = 0;
      push = λ s b. suc s;
      judge = λ s. cond (eqb s 3) (broken 7) more;
      next = λ s. 0;
      closed = λ s. eqb s 3;
      count = λ s. s;
    }

abbrev pub name_ax : List ℕ
name_ax = bytes "org.a.x"

abbrev pub name_by : List ℕ
name_by = bytes "org.b.y"

abbrev pub to_two_at : ℕ → ℕ → Pending
to_two_at serial at = record { callee = 2; serial = serial; tick = at }

abbrev pub to_two : ℕ → Pending
to_two serial = to_two_at serial 0

-- calls to peer 2 of the serials 1 to n
abbrev pub calls_to_two : ℕ → List Pending
calls_to_two zero = []
calls_to_two (suc n) = to_two (suc n) ∷ calls_to_two n

-- peer 1 has these pending calls and names, and of its message two bytes have come
abbrev pub one : List Pending → List (List ℕ) → Peer ℕ
one pending names = record { number = 1; uid = 7; gids = []; pending = pending; names = names; stream = 2 }

-- peer 2 owns org.b.y, and its stream is closed
abbrev pub two : Peer ℕ
two = record { number = 2; uid = 8; gids = []; pending = []; names = name_by ∷ []; stream = 3 }

abbrev pub with : List Pending → List (List ℕ) → State ℕ
with pending names = record { last = 2; tick = 10; slots = peer (one pending names) ∷ peer two ∷ replicate 14 free }

-- peer 1 awaits the reply of peer 2 to serial 9
abbrev pub waiting : State ℕ
waiting = with (to_two 9 ∷ []) (name_ax ∷ [])

-- it has all the pending calls that it may have, and all the names
abbrev pub full : State ℕ
full = with (calls_to_two 16) (name_ax ∷ bytes "n.a" ∷ bytes "n.b" ∷ bytes "n.c" ∷ [])

-- at tick 10 it has calls of the ages 7, 3 and 0
abbrev pub aged : State ℕ
aged = with (to_two_at 1 3 ∷ to_two_at 2 7 ∷ to_two_at 3 10 ∷ []) (name_ax ∷ [])

-- every slot is taken; `last` is the last number given
abbrev pub crowded : ℕ → State ℕ
crowded last = record { last = last; tick = 10; slots = replicate 16 (peer two) }

-- ---- messages and judgements: a head is a zero and the destination, none where it is empty

abbrev pub header : ℕ → ℕ → ℕ → List ℕ → Header
header kind flags serial to =
    record {
      kind = kind;
      flags = flags;
      serial = serial;
      body = 0;
      head = 16;
      reply_serial = serial;
      path = absent;
      interface = absent;
      member = absent;
      error_name = absent;
      destination = cond (eqb (length to) 0) absent (record { at = 1; len = length to });
    }

-- a message of peer 1; its serial is its reply serial too
abbrev pub from_one : List ℕ → State ℕ → ℕ → ℕ → ℕ → List ℕ → Judged ℕ
from_one image s kind flags serial to = judged image s 0 (one (to_two 9 ∷ []) (name_ax ∷ [])) (0 ∷ to) (header kind flags serial to)

-- the same of peer 1 with all its pending calls, and of peer 2
abbrev pub from_full : ℕ → ℕ → Judged ℕ
from_full flags serial = judged both full 0 (one (calls_to_two 16) (name_ax ∷ [])) (0 ∷ name_by) (header call flags serial name_by)

abbrev pub from_two : State ℕ → ℕ → ℕ → List ℕ → Judged ℕ
from_two s kind serial to = judged image_of_nothing s 1 two (0 ∷ to) (header kind 0 serial to)

-- ---- what is reported, as numbers: of every report but those of release, disconnect and tick the last two say who decided

abbrev pub judgement : Judged ℕ → List ℕ
judgement j = j.judgement.answer ∷ (receiver_words j.judgement.receiver ++ shown_words j.judgement.rule)

abbrev pub connection : Step ℕ Connected → List ℕ
connection s = s.result.answer ∷ s.result.number ∷ s.result.slot ∷ shown_words s.result.rule

abbrev pub owning : Step ℕ Owned → List ℕ
owning s = s.result.answer ∷ shown_words s.result.rule

abbrev pub releasing : Step ℕ ℕ → List ℕ
releasing s = s.result ∷ []

abbrev pub taking : Step ℕ Taken → List ℕ
taking s = s.result.judgement.answer ∷ s.result.taken ∷ shown_words s.result.judgement.rule

abbrev pub parting : Step ℕ Gone → List ℕ
parting s = s.result.answer ∷ s.result.bytes ∷ []

abbrev pub ticking : Step ℕ Ticked → List ℕ
ticking s = s.result.answer ∷ s.result.ended ∷ []

-- ---- the table: what is reported, and what it should be

abbrev pub CallRow : Type 0
CallRow = List ℕ × List ℕ

-- who decided: nothing is shown, the rule at a position of its section, or none that matches (rule 6.9)
abbrev pub unshown : List ℕ
unshown = 0 ∷ 0 ∷ []

abbrev pub by_rule : ℕ → List ℕ
by_rule i = 1 ∷ i ∷ []

abbrev pub by_none : List ℕ
by_none = 2 ∷ 0 ∷ []

-- an answer, and who decided
abbrev pub refused_row : ℕ → List ℕ → List ℕ
refused_row a who = a ∷ 0 ∷ 0 ∷ 0 ∷ who

abbrev pub to_bus_row : List ℕ → List ℕ
to_bus_row who = 0 ∷ 1 ∷ 0 ∷ 0 ∷ who

abbrev pub to_peer_row : ℕ → List ℕ → List ℕ
to_peer_row n who = 0 ∷ 2 ∷ n ∷ 0 ∷ who

abbrev pub to_slots : ℕ → ℕ → List ℕ
to_slots mask count = 0 ∷ 3 ∷ mask ∷ count ∷ unshown

-- calls and signals: 20, 21, the bus, everybody; send before receive; 25 before 26, and only for a call that expects a reply; a call without an interface
-- is denied where an interface is, to a peer and to the bus (rule 6.8). Who was asked last is shown: send of the bus and of 22, receive of 23, 25, 26 and
-- of what passes to a peer, and nobody of 20, of 21 and of what goes to everybody (rule 7.12)
abbrev pub judgement_rows : List CallRow
judgement_rows =
    (judgement (from_one both waiting 5 0 1 name_by), refused_row 20 unshown)
    ∷ (judgement (from_one both waiting 5 0 1 (bytes "org.x.x")), refused_row 20 unshown)
    ∷ (judgement (from_one image_of_nothing waiting call 0 1 (bytes "org.x.x")), refused_row 21 unshown)
    ∷ (judgement (from_one both waiting call 0 1 (bytes ":1.02")), refused_row 21 unshown)
    ∷ (judgement (from_one both waiting call 0 1 (bytes ":1.2")), to_peer_row 2 (by_rule 1))
    ∷ (judgement (from_one send_only waiting call 0 1 []), to_bus_row (by_rule 0))
    ∷ (judgement (from_one send_only waiting signal 0 1 bus_name), to_bus_row (by_rule 0))
    ∷ (judgement (from_one receive_only waiting call 0 1 []), refused_row 22 by_none)
    ∷ (judgement (from_one both waiting call 0 1 []), to_bus_row (by_rule 0))
    ∷ (judgement (from_one both waiting signal 0 1 []), to_slots 3 2)
    ∷ (judgement (from_one send_only waiting signal 0 1 []), to_slots 0 0)
    ∷ (judgement (from_one image_of_nothing waiting call 0 1 name_by), refused_row 22 by_none)
    ∷ (judgement (from_one send_only waiting call 0 1 name_by), refused_row 23 by_none)
    ∷ (judgement (from_one both waiting call 0 1 name_by), to_peer_row 2 (by_rule 1))
    ∷ (judgement (from_one both waiting signal 0 1 name_by), to_peer_row 2 (by_rule 1))
    ∷ (judgement (from_one both waiting call 0 9 name_by), refused_row 25 (by_rule 1))
    ∷ (judgement (from_one both waiting call 1 9 name_by), to_peer_row 2 (by_rule 1))
    ∷ (judgement (from_full 0 16), refused_row 25 (by_rule 1))
    ∷ (judgement (from_full 0 17), refused_row 26 (by_rule 1))
    ∷ (judgement (from_full 1 17), to_peer_row 2 (by_rule 1))
    ∷ (judgement (from_one (all_but_interface send) waiting call 0 1 name_by), refused_row 22 (by_rule 2))
    ∷ (judgement (from_one (all_but_interface send) waiting call 0 1 []), refused_row 22 (by_rule 2))
    ∷ (judgement (from_one (all_but_interface receive) waiting call 0 1 name_by), refused_row 23 (by_rule 2))
    ∷ (judgement (from_one (all_but_interface receive) waiting call 0 1 []), to_bus_row (by_rule 0))
    ∷ []

-- replies: peer 2's to serial 9 passes, once, whatever policy says; no other does; no rule is asked, and none is shown
abbrev pub replies : List CallRow
replies =
    (judgement (from_two waiting return 9 name_ax), to_peer_row 1 unshown)
    ∷ (judgement (from_two waiting error 9 (bytes ":1.1")), to_peer_row 1 unshown)
    ∷ (judgement (from_two waiting return 8 name_ax), refused_row 24 unshown)
    ∷ (judgement (from_two waiting return 9 name_by), refused_row 24 unshown)
    ∷ (judgement (from_two waiting return 9 bus_name), refused_row 24 unshown)
    ∷ (judgement (from_two waiting return 9 []), refused_row 24 unshown)
    ∷ (judgement (from_one both waiting return 0 9 name_ax), refused_row 24 unshown)
    ∷ (judgement (from_two (from_two waiting return 9 name_ax).state return 9 name_ax), refused_row 24 unshown)
    ∷ (judgement (from_two (from_two waiting return 8 name_ax).state return 9 name_ax), to_peer_row 1 unshown)
    ∷ (judgement (from_two (from_one both waiting call 0 1 name_by).state return 1 name_ax), to_peer_row 1 unshown)
    ∷ (judgement (from_two (from_one both waiting call 1 1 name_by).state return 1 name_ax), refused_row 24 unshown)
    ∷ (judgement (from_two (disconnect counter waiting 2).state return 9 name_ax), refused_row 24 unshown)
    ∷ []

-- connect: 37, 36, 38, 39 in this order; all but 37 show who decided (rule 8.10)
abbrev pub connect_rows : List CallRow
connect_rows =
    (connection (connect counter image_of_nothing waiting 7 (replicate 17 0)), 37 ∷ 0 ∷ 0 ∷ unshown)
    ∷ (connection (connect counter image_of_nothing (crowded 2) 7 []), 36 ∷ 0 ∷ 0 ∷ by_none)
    ∷ (connection (connect counter may_join (crowded 4294967295) 7 []), 38 ∷ 0 ∷ 0 ∷ by_rule 0)
    ∷ (connection (connect counter may_join (record { last = 4294967295; tick = 0; slots = free ∷ [] }) 7 []), 39 ∷ 0 ∷ 0 ∷ by_rule 0)
    ∷ (connection (connect counter may_join (record { last = 4294967294; tick = 0; slots = free ∷ [] }) 7 []), 0 ∷ 4294967295 ∷ 0 ∷ by_rule 0)
    ∷ (connection (connect counter may_join waiting 7 (replicate 16 0)), 0 ∷ 3 ∷ 2 ∷ by_rule 0)
    ∷ (connection (connect counter all_but_seven waiting 7 []), 36 ∷ 0 ∷ 0 ∷ by_rule 1)
    ∷ []

-- own: 30, 31, 32, the peer's already, 33, 34 in this order; all but 30 and 31 show who decided (rule 8.10); release: 30, 31, 35
abbrev pub claim_rows : List CallRow
claim_rows =
    (owning (own may_join waiting 3 name_by), 30 ∷ unshown)
    ∷ (owning (own image_of_nothing waiting 1 (bytes "x")), 31 ∷ unshown)
    ∷ (owning (own may_join waiting 1 bus_name), 31 ∷ unshown)
    ∷ (owning (own image_of_nothing waiting 1 name_ax), 32 ∷ by_none)
    ∷ (owning (own may_join full 1 name_ax), 0 ∷ by_rule 0)
    ∷ (owning (own may_join full 1 name_by), 33 ∷ by_rule 0)
    ∷ (owning (own may_join full 1 (bytes "n.d")), 34 ∷ by_rule 0)
    ∷ (owning (own may_join waiting 1 (bytes "n.d")), 0 ∷ by_rule 0)
    ∷ (owning (own all_but_seven waiting 1 (bytes "n.d")), 32 ∷ by_rule 1)
    ∷ (releasing (release waiting 3 name_by), 30 ∷ [])
    ∷ (releasing (release waiting 1 bus_name), 31 ∷ [])
    ∷ (releasing (release waiting 1 name_by), 35 ∷ [])
    ∷ (releasing (release (release waiting 1 name_ax).state 1 name_ax), 35 ∷ [])
    ∷ (releasing (release (own may_join waiting 1 (bytes "n.d")).state 1 (bytes "n.d")), 0 ∷ [])
    ∷ []

-- piece: 30, 40, and the bytes up to the one that breaks the message; disconnect: 30, and the bytes taken
abbrev pub piece_rows : List CallRow
piece_rows =
    (taking (piece counter both waiting 3 (0 ∷ [])), 30 ∷ 0 ∷ unshown)
    ∷ (taking (piece counter both waiting 2 (0 ∷ [])), 40 ∷ 0 ∷ unshown)
    ∷ (taking (piece counter both waiting 1 []), 10 ∷ 0 ∷ unshown)
    ∷ (taking (piece counter both waiting 1 (0 ∷ 0 ∷ [])), 7 ∷ 1 ∷ unshown)
    ∷ (taking (piece counter both (piece counter both waiting 1 (0 ∷ 0 ∷ [])).state 1 (0 ∷ [])), 40 ∷ 0 ∷ unshown)
    ∷ (parting (disconnect counter waiting 3), 30 ∷ 0 ∷ [])
    ∷ (parting (disconnect counter waiting 1), 0 ∷ 2 ∷ [])
    ∷ (parting (disconnect counter (disconnect counter waiting 1).state 1), 30 ∷ 0 ∷ [])
    ∷ []

-- tick: 41 below the last one, and not at it; a call ends at the limit and not before it; what is refused changes nothing, what is done sets the tick, no other
-- call does, and a call that passes keeps it; the ends of u64; a late reply is 24 (rule 8.12)
abbrev pub tick_rows : List CallRow
tick_rows =
    (ticking (tick aged 9 0), 41 ∷ 0 ∷ [])
    ∷ (ticking (tick aged 10 0), 0 ∷ 3 ∷ [])
    ∷ (ticking (tick aged 10 1), 0 ∷ 2 ∷ [])
    ∷ (ticking (tick aged 10 7), 0 ∷ 1 ∷ [])
    ∷ (ticking (tick aged 10 8), 0 ∷ 0 ∷ [])
    ∷ (ticking (tick aged 11 8), 0 ∷ 1 ∷ [])
    ∷ (ticking (tick (tick aged 10 7).state 10 0), 0 ∷ 2 ∷ [])
    ∷ (ticking (tick (tick aged 8 0).state 9 0), 41 ∷ 0 ∷ [])
    ∷ (ticking (tick (tick aged 9 0).state 10 0), 0 ∷ 3 ∷ [])
    ∷ (ticking (tick (tick aged 12 100).state 11 0), 41 ∷ 0 ∷ [])
    ∷ (ticking (tick empty 0 0), 0 ∷ 0 ∷ [])
    ∷ (ticking (tick waiting 18446744073709551615 18446744073709551615), 0 ∷ 1 ∷ [])
    ∷ (ticking (tick waiting 18446744073709551614 18446744073709551615), 0 ∷ 0 ∷ [])
    ∷ (ticking (tick (disconnect counter aged 2).state 9 0), 41 ∷ 0 ∷ [])
    ∷ (ticking (tick (connect counter may_join aged 7 []).state 9 0), 41 ∷ 0 ∷ [])
    ∷ (ticking (tick (release aged 1 name_ax).state 9 0), 41 ∷ 0 ∷ [])
    ∷ (ticking (tick (from_one both waiting call 0 1 name_by).state 14 4), 0 ∷ 2 ∷ [])
    ∷ (ticking (tick (from_one both waiting call 0 1 name_by).state 14 5), 0 ∷ 1 ∷ [])
    ∷ (judgement (from_two (tick waiting 12 12).state return 9 name_ax), refused_row 24 unshown)
    ∷ (judgement (from_two (tick waiting 12 13).state return 9 name_ax), to_peer_row 1 unshown)
    ∷ []

-- whether an offering of three bytes goes on after an answer: with bytes left, and not after 1 to 9 or 30 to 51
abbrev pub going : ℕ → ℕ → List ℕ
going a taken = bit (goes_on (record { judgement = refusal a; taken = taken }) (0 ∷ 0 ∷ 0 ∷ [])) ∷ []

abbrev pub offerings : List CallRow
offerings =
    (going 0 2, 1 ∷ [])
    ∷ (going 20 1, 1 ∷ [])
    ∷ (going 26 3, 0 ∷ [])
    ∷ (going 10 3, 0 ∷ [])
    ∷ (going 1 1, 0 ∷ [])
    ∷ (going 9 1, 0 ∷ [])
    ∷ (going 30 0, 0 ∷ [])
    ∷ (going 51 0, 0 ∷ [])
    ∷ []
