-- The judgement of a whole message: its answer, its receiver, who decided, and the state that it leaves.
use Rattle.std.specs.Prelude.{Bool, true, false, cond, ◌&&◌, ◌||◌, List, [], ◌∷◌, ◌++◌, map, ℕ, ◌+◌, ◌*◌, ◌%◌, eqb, ltb, leb, length, get_or, Some, None}
use Rattle.header.specs.Codes.{call, return, error}
use Rattle.header.specs.declared.Header.{Header}
use Rattle.policy.specs.Names.{bus_name}
use Rattle.policy.specs.Matching.{Message, field_of, message_of}
use Rattle.policy.specs.Decisions.{send, receive, transaction_decision}
use Rattle.policy.specs.declared.Decider.{Decider}
use Rattle.policy.specs.declared.Decision.{Decision}
use Rattle.rules.specs.State.{Slot, free, peer, Peer, State, put_slot, with_pending}
use Rattle.rules.specs.Addresses.{Address, undirected, bus, slot, unknown, resolve}
use Rattle.rules.specs.Pending.{awaits, ended}
use Rattle.rules.specs.declared.Receiver.{Receiver}
use Rattle.rules.specs.declared.Receiver.TheVariants as to
use Rattle.rules.specs.declared.Judgement.{Judgement}

pub record Judged (S : Type 0) : Type 0 where
  pub judgement : Judgement
  pub state : State S

-- an answer that no receiver goes with (rule 7.4), and no rule
abbrev pub refusal : ℕ → Judgement
refusal a = record { answer = a; receiver = to.Nobody; rule = None }

-- a refused message changes nothing
abbrev pub refused : {S : Type 0} → State S → ℕ → Judged S
refused s a = record { judgement = refusal a; state = s }

-- a message that passes is answered 0 with its receiver (rule 7.4)
abbrev pub passed : {S : Type 0} → State S → Receiver → Judged S
passed s r = record { judgement = record { answer = 0; receiver = r; rule = None }; state = s }

-- who decided is shown (rule 7.12)
abbrev pub judgement_by : Decider → Judgement → Judgement
judgement_by d j = record { answer = j.answer; receiver = j.receiver; rule = Some d }

abbrev pub judged_by : {S : Type 0} → Decider → Judged S → Judged S
judged_by d j = record { judgement = judgement_by d j.judgement; state = j.state }

-- a send rule's subject is the sender and its name one of the receiver's; of a receive rule it is the other way round (rules 6.5 and 6.6)
abbrev pub send_decision : {S : Type 0} → List ℕ → Peer S → List (List ℕ) → Message → Decision
send_decision image sender names m = transaction_decision image send (record { 0 = sender.uid }) sender.gids names m

abbrev pub receive_decision : {S : Type 0} → List ℕ → Peer S → List (List ℕ) → Message → Decision
receive_decision image receiver names m = transaction_decision image receive (record { 0 = receiver.uid }) receiver.gids names m

-- ---- to the bus

-- the bus has its one name and no policy of its own, so only send is asked (rule 7.5), and shown (rule 7.12)
abbrev pub to_bus : {S : Type 0} → List ℕ → State S → Peer S → Message → Judged S
to_bus image s sender m =
    let sends = send_decision image sender (bus_name ∷ []) m in
    judged_by sends.rule (cond sends.allow (passed s to.Bus) (refused s 22))

-- ---- to one peer

-- a call that passes and awaits its reply is the last of its caller's pending calls, with the last tick; 25 is tested before 26 (rule 7.8)
abbrev pub waits : {S : Type 0} → State S → ℕ → Peer S → Peer S → Header → Judged S
waits s i sender receiver x =
    cond (awaits receiver.number x.serial sender.pending) (refused s 25)
    (cond (leb 16 (length sender.pending)) (refused s 26)
    (passed
    (put_slot s i
    (peer (with_pending sender (sender.pending ++ (record { callee = receiver.number; serial = x.serial; tick = s.tick } ∷ [])))))
    (to.Peer receiver.number)))

-- a call that expects a reply has bit 0 of its flags clear (rule 2.2)
abbrev pub expects_reply : Header → Bool
expects_reply x = eqb x.kind call && eqb (x.flags % 2) 0

-- a call or a signal that policy lets pass to a peer (rules 7.7 and 7.8)
abbrev pub delivered : {S : Type 0} → State S → ℕ → Peer S → Peer S → Header → Judged S
delivered s i sender receiver x = cond (expects_reply x) (waits s i sender receiver x) (passed s (to.Peer receiver.number))

-- a call or a signal to a peer: send is asked before receive (rule 7.7), and whoever was asked last is shown (rule 7.12)
abbrev pub to_peer : {S : Type 0} → List ℕ → State S → ℕ → Peer S → Peer S → Message → Header → Judged S
to_peer image s i sender receiver m x =
    let sends = send_decision image sender receiver.names m in
    let receives = receive_decision image receiver sender.names m in
    cond sends.allow
    (judged_by receives.rule (cond receives.allow (delivered s i sender receiver x) (refused s 23)))
    (judged_by sends.rule (refused s 22))

-- ---- to everybody

-- a broadcast reaches the slot's peer, each asked about with its own names (rule 7.6)
abbrev pub reaches : {S : Type 0} → List ℕ → Peer S → Message → Slot S → Bool
reaches image sender m free = false
reaches image sender m (peer receiver) =
    (send_decision image sender receiver.names m).allow && (receive_decision image receiver sender.names m).allow

abbrev pub bit : Bool → ℕ
bit true = 1
bit false = 0

-- bit k is slot k (rule 7.6)
unfoldable pub mask_of : List Bool → ℕ
mask_of [] = 0
mask_of (b ∷ bs) = bit b + 2 * mask_of bs

-- how many slots are reached (rule 7.6)
unfoldable pub count_of : List Bool → ℕ
count_of [] = 0
count_of (b ∷ bs) = bit b + count_of bs

-- a broadcast always passes, if to no slot (rule 7.6); each slot was decided by itself, so none is shown (rule 7.12)
abbrev pub to_all : {S : Type 0} → List ℕ → State S → Peer S → Message → Judged S
to_all image s sender m =
    let bits = map (reaches image sender m) s.slots in
    passed s (to.Slots (mask_of bits) (count_of bits))

-- ---- replies

-- the reply of `sender` to the peer in slot j: it passes where that peer awaits it, and is awaited no longer (rule 7.9); no rule is asked
abbrev pub reply_to : {S : Type 0} → State S → ℕ → Peer S → Slot S → Header → Judged S
reply_to s j sender free x = refused s 24
reply_to s j sender (peer caller) x =
    cond (awaits sender.number x.reply_serial caller.pending)
    (passed
    (put_slot s j (peer (with_pending caller (ended sender.number x.reply_serial caller.pending))))
    (to.Peer caller.number))
    (refused s 24)

-- only a peer awaits replies: the bus does not, nor does nobody (rule 7.9)
abbrev pub reply : {S : Type 0} → State S → Peer S → Address → Header → Judged S
reply s sender undirected x = refused s 24
reply s sender bus x = refused s 24
reply s sender unknown x = refused s 24
reply s sender (slot j) x = reply_to s j sender (get_or s.slots j free) x

-- ---- a call or a signal, by its address

-- a free slot is nobody's (rule 7.7)
abbrev pub to_slot : {S : Type 0} → List ℕ → State S → ℕ → Peer S → Slot S → Message → Header → Judged S
to_slot image s i sender free m x = refused s 21
to_slot image s i sender (peer receiver) m x = to_peer image s i sender receiver m x

-- without a destination a call is for the bus and a signal for everybody (rules 7.5, 7.6 and 7.7)
abbrev pub directed : {S : Type 0} → List ℕ → State S → ℕ → Peer S → Address → Message → Header → Judged S
directed image s i sender undirected m x = cond (eqb x.kind call) (to_bus image s sender m) (to_all image s sender m)
directed image s i sender bus m x = to_bus image s sender m
directed image s i sender unknown m x = refused s 21
directed image s i sender (slot j) m x = to_slot image s i sender (get_or s.slots j free) m x

-- returns and errors are replies (rule 7.9)
abbrev pub is_reply : Header → Bool
is_reply x = eqb x.kind return || eqb x.kind error

-- a whole message of the peer in slot i, whose head is h, over the state of that moment; a type above 4 is tested before all else (rules 7.10 and 7.11)
unfoldable pub judged : {S : Type 0} → List ℕ → State S → ℕ → Peer S → List ℕ → Header → Judged S
judged image s i sender h x =
    let a = resolve s.slots (field_of h x.destination) in
    cond (ltb 4 x.kind) (refused s 20)
    (cond (is_reply x) (reply s sender a x) (directed image s i sender a (message_of h x) x))
