-- What a list of calls says of one peer's pending calls since it connected (rule 12.4): counted from the calls, the messages and the answers alone, and
-- never from the pending calls that a state holds.
use Rattle.std.specs.Prelude.{Bool, true, false, cond, ◌&&◌, List, [], ◌∷◌, ◌++◌, ℕ, ◌+◌, eqb}
use Rattle.header.specs.declared.Header.{Header}
use Rattle.stream.specs.Stream.{Verdict, more, broken, whole, offer}
use Rattle.rules.specs.State.{Pending, Slot, free, peer, State, is_peer, first_by}
use Rattle.rules.specs.Pending.{is_to, expired, ended, ended_where, count_where}
use Rattle.rules.specs.Judge.{expects_reply, is_reply}
use Rattle.rules.specs.Calls.{empty, slot_at}
use Rattle.rules.specs.declared.Receiver.{Receiver}
use Rattle.rules.specs.declared.Receiver.TheVariants as to
use Rattle.book.specs.Book.{books}
use Rattle.book.specs.Lists.{Call, starts, connects, claims, releases, offers, leaves, ticks, Answer, plain, connected, owned, taken, gone, ticked}
use Rattle.book.specs.Lists.{number_of, model_step}

pub record Tally : Type 0 where
  -- its calls that passed to a peer and began to wait for the reply
  pub admitted : ℕ
  -- the replies that passed to it
  pub replied : ℕ
  -- its calls that ended without one
  pub otherwise : ℕ
  -- its calls that have ended in neither way, as they passed: each with its callee, its serial and the last tick of then
  pub waiting : List Pending

-- of a peer that has just connected
abbrev pub no_calls : Tally
no_calls = record { admitted = 0; replied = 0; otherwise = 0; waiting = [] }

-- ---- what happens to a peer's calls

-- a call to k begins to wait, at that tick (rule 7.8)
abbrev pub call_admitted : ℕ → ℕ → ℕ → Tally → Tally
call_admitted k serial now t =
    record {
      admitted = t.admitted + 1;
      replied = t.replied;
      otherwise = t.otherwise;
      waiting = t.waiting ++ (record { callee = k; serial = serial; tick = now } ∷ []);
    }

-- k replies to that serial (rule 7.9)
abbrev pub call_replied : ℕ → ℕ → Tally → Tally
call_replied k serial t = record { admitted = t.admitted; replied = t.replied + 1; otherwise = t.otherwise; waiting = ended k serial t.waiting }

-- the calls that pass a test end without a reply
abbrev pub calls_ended : (Pending → Bool) → Tally → Tally
calls_ended test t =
    record { admitted = t.admitted; replied = t.replied; otherwise = t.otherwise + count_where test t.waiting; waiting = ended_where test t.waiting }

-- k leaves, and what waits for it ends (rule 8.7)
abbrev pub callee_left : ℕ → Tally → Tally
callee_left k t = calls_ended (is_to k) t

-- a tick ends what has waited so long (rules 8.12 and 12.4)
abbrev pub calls_expired : ℕ → ℕ → Tally → Tally
calls_expired now limit t = calls_ended (expired now limit) t

-- ---- what a message is to peer n

-- peer k's message x has passed, at that tick: a call counts for its sender, and a reply for its receiver; what goes to the bus or to many is neither
-- (rule 12.4)
abbrev pub message_passed : ℕ → ℕ → ℕ → Header → Receiver → Tally → Tally
message_passed n k now x to.Nobody t = t
message_passed n k now x to.Bus t = t
message_passed n k now x (to.Slots mask count) t = t
message_passed n k now x (to.Peer r) t =
    cond (expects_reply x) (cond (eqb k n) (call_admitted r x.serial now t) t)
    (cond (is_reply x) (cond (eqb r n) (call_replied k x.reply_serial t) t) t)

-- the message that bytes of the slot's peer end, if they do (rule 9.1)
abbrev pub verdict_on : Slot (List ℕ) → List ℕ → Verdict
verdict_on free bytes = more
verdict_on (peer p) bytes = (offer books p.stream bytes).verdict

-- no message, or one that passed
abbrev pub piece_passed : ℕ → ℕ → ℕ → Verdict → Receiver → Tally → Tally
piece_passed n k now more r t = t
piece_passed n k now (broken a) r t = t
piece_passed n k now (whole h x) r t = message_passed n k now x r t

-- ---- what a call is to peer n

-- the number that a connect gave
abbrev pub number_given : Answer → ℕ
number_given (plain a) = 0
number_given (connected r) = r.number
number_given (owned r) = 0
number_given (taken r) = 0
number_given (gone r) = 0
number_given (ticked r) = 0

abbrev pub receiver_of : Answer → Receiver
receiver_of (plain a) = to.Nobody
receiver_of (connected r) = to.Nobody
receiver_of (owned r) = to.Nobody
receiver_of (taken r) = r.judgement.receiver
receiver_of (gone r) = to.Nobody
receiver_of (ticked r) = to.Nobody

-- what is counted where a call is answered 0; any other answer is nothing to the tally (rule 12.4)
abbrev pub where_done : Answer → Tally → Tally → Tally
where_done a then t = cond (eqb (number_of a) 0) then t

-- a piece may end a message, and a disconnect or a tick calls; the other calls are nothing to it. The last tick is the model's, which
-- ticks set and a start takes back (rule 12.4)
unfoldable pub call_tallied : ℕ → State (List ℕ) → Answer → Call → Tally → Tally
call_tallied n b a starts t = t
call_tallied n b a (connects image uid gids) t = t
call_tallied n b a (claims image k name) t = t
call_tallied n b a (releases k name) t = t
call_tallied n b a (offers image k bytes) t =
    where_done a (piece_passed n k b.tick (verdict_on (slot_at b (first_by (is_peer k) b.slots)) bytes) (receiver_of a) t) t
call_tallied n b a (leaves k) t = where_done a (callee_left k t) t
call_tallied n b a (ticks now limit) t = where_done a (calls_expired now limit t) t

-- a start takes every number back, and a connect gives one out (rule 12.4)
unfoldable pub begins : ℕ → Answer → Call → Bool
begins n a starts = true
begins n a (connects image uid gids) = eqb (number_of a) 0 && eqb (number_given a) n
begins n a (claims image k name) = false
begins n a (releases k name) = false
begins n a (offers image k bytes) = false
begins n a (leaves k) = false
begins n a (ticks now limit) = false

-- ---- what a list of calls is to peer n (rule 12.4)

-- a call answered a: the tally begins anew with the peer's number
abbrev pub tally_after : ℕ → State (List ℕ) → Answer → Call → Tally → Tally
tally_after n b a c t = cond (begins n a c) no_calls (call_tallied n b a c t)

unfoldable pub tallied : ℕ → State (List ℕ) → List Call → Tally → Tally
tallied n b [] t = t
tallied n b (c ∷ cs) t = tallied n (model_step b c).state cs (tally_after n b (model_step b c).answer c t)

-- from an empty guard on
abbrev pub since : ℕ → List Call → Tally
since n cs = tallied n empty cs no_calls
