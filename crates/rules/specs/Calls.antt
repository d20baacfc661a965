-- The guard's calls, once, over any streams: what each reports and the state that it leaves. Each is asked with a good image and good memory: 50 and 51
-- come before, in crates/memory/specs/Calls.antt.
use Rattle.std.specs.Prelude.{Bool, false, cond, List, [], ◌∷◌, ◌++◌, map, ℕ, ◌+◌, ltb, leb, length, get_or, set, replicate, Some, None}
use Rattle.wire.specs.Bytes.{same}
use Rattle.policy.specs.Names.{owns}
use Rattle.policy.specs.Decisions.{connect_decision, own_decision}
use Rattle.policy.specs.declared.Decider.{Decider}
use Rattle.stream.specs.Stream.{Verdict, more, broken, whole, verdict_answer, Streams, Offer, offer, settled}
use Rattle.rules.specs.State.{Slot, free, peer, Peer, State, is_free, is_peer, first_by, drop_first, put_slot, with_names, with_stream}
use Rattle.rules.specs.Addresses.{ownable}
use Rattle.rules.specs.Pending.{is_to, expired, remove_calls, count_in}
use Rattle.rules.specs.Judge.{refusal, judged}
use Rattle.rules.specs.declared.Connected.{Connected}
use Rattle.rules.specs.declared.Owned.{Owned}
use Rattle.rules.specs.declared.Taken.{Taken}
use Rattle.rules.specs.declared.Gone.{Gone}
use Rattle.rules.specs.declared.Ticked.{Ticked}

-- a call's result, and the state that it leaves
pub record Step (S R : Type 0) : Type 0 where
  pub state : State S
  pub result : R

abbrev pub stays : {S R : Type 0} → State S → R → Step S R
stays s r = record { state = s; result = r }

-- no number given, tick 0, and sixteen free slots (rule 1.1)
abbrev pub empty : {S : Type 0} → State S
empty = record { last = 0; tick = 0; slots = replicate 16 free }

-- ---- connect

-- a refused connect reports its answer and zeros (rule 8.1)
abbrev pub no_connect : ℕ → Connected
no_connect a = record { answer = a; number = 0; slot = 0; rule = None }

-- who decided is shown (rule 8.10)
abbrev pub connected_by : Decider → Connected → Connected
connected_by d r = record { answer = r.answer; number = r.number; slot = r.slot; rule = Some d }

abbrev pub connect_by : {S : Type 0} → Decider → Step S Connected → Step S Connected
connect_by d s = record { state = s.state; result = connected_by d s.result }

-- a peer that has just been given its number: it has no names, no pending calls and a stream unbegun (rule 7.1)
abbrev pub newcomer : {S : Type 0} → Streams S → ℕ → ℕ → List ℕ → Peer S
newcomer O number uid gids = record { number = number; uid = uid; gids = gids; pending = []; names = []; stream = O.fresh }

-- slot i and the next number are the newcomer's, and both are reported (rules 7.1 and 8.3)
abbrev pub seated : {S : Type 0} → Streams S → State S → ℕ → ℕ → List ℕ → Step S Connected
seated O s i uid gids =
    record {
      state = record { last = s.last + 1; tick = s.tick; slots = set s.slots i (peer (newcomer O (s.last + 1) uid gids)) };
      result = record { answer = 0; number = s.last + 1; slot = i; rule = None };
    }

-- i is the lowest free slot, or their count where none is free: that is 38, and tested before 39 (rules 7.1 and 8.3)
abbrev pub connect_at : {S : Type 0} → Streams S → State S → ℕ → ℕ → List ℕ → Step S Connected
connect_at O s i uid gids =
    cond (ltb i (length s.slots))
    (cond (ltb s.last 4294967295) (seated O s i uid gids) (stays s (no_connect 39)))
    (stays s (no_connect 38))

-- 37 is tested before 36, and both before 38 (rule 8.3); all that comes behind 37 shows who decided (rule 8.10)
unfoldable pub connect : {S : Type 0} → Streams S → List ℕ → State S → ℕ → List ℕ → Step S Connected
connect O image s uid gids =
    let d = connect_decision image (record { 0 = uid }) gids in
    cond (ltb 16 (length gids)) (stays s (no_connect 37))
    (connect_by d.rule (cond d.allow (connect_at O s (first_by is_free s.slots) uid gids) (stays s (no_connect 36))))

-- ---- own

-- own's answer, which no rule goes with
abbrev pub no_own : ℕ → Owned
no_own a = record { answer = a; rule = None }

-- who decided is shown (rule 8.10)
abbrev pub own_by : {S : Type 0} → Decider → Step S ℕ → Step S Owned
own_by d s = record { state = s.state; result = record { answer = s.result; rule = Some d } }

-- the slot's peer owns the name (rule 8.4)
abbrev pub is_owner : {S : Type 0} → List ℕ → Slot S → Bool
is_owner name free = false
is_owner name (peer p) = owns p.names name

-- a name that is not the peer's yet: 33, then 34; granted, it is the last of the peer's names (rule 8.4)
abbrev pub own_new : {S : Type 0} → State S → ℕ → Peer S → List ℕ → Step S ℕ
own_new s i p name =
    cond (ltb (first_by (is_owner name) s.slots) (length s.slots)) (stays s 33)
    (cond (leb 4 (length p.names)) (stays s 34)
    (stays (put_slot s i (peer (with_names p (p.names ++ (name ∷ []))))) 0))

-- 30, 31 and 32 in this order, and only then whether the name is the peer's already (rule 8.4); all that comes behind 31 shows who decided (rule 8.10)
abbrev pub own_at : {S : Type 0} → List ℕ → State S → ℕ → Slot S → List ℕ → Step S Owned
own_at image s i free name = stays s (no_own 30)
own_at image s i (peer p) name =
    let d = own_decision image (record { 0 = p.uid }) p.gids name in
    cond (ownable name)
    (own_by d.rule (cond d.allow (cond (owns p.names name) (stays s 0) (own_new s i p name)) (stays s 32)))
    (stays s (no_own 31))

-- slot i, which is free past the last
abbrev pub slot_at : {S : Type 0} → State S → ℕ → Slot S
slot_at s i = get_or s.slots i free

-- the peer with number n asks for a name (rule 8.4)
unfoldable pub own : {S : Type 0} → List ℕ → State S → ℕ → List ℕ → Step S Owned
own image s n name = let i = first_by (is_peer n) s.slots in own_at image s i (slot_at s i) name

-- ---- release

-- the names without that one, the later ones moved down (rule 8.5)
unfoldable pub released : List ℕ → List (List ℕ) → List (List ℕ)
released name names = drop_first (λ x. same x name) names

-- 30, 31 and 35 in this order; pending calls are not touched (rule 8.5)
abbrev pub release_at : {S : Type 0} → State S → ℕ → Slot S → List ℕ → Step S ℕ
release_at s i free name = stays s 30
release_at s i (peer p) name =
    cond (ownable name)
    (cond (owns p.names name) (stays (put_slot s i (peer (with_names p (released name p.names)))) 0) (stays s 35))
    (stays s 31)

-- the peer with number n gives a name up (rule 8.5)
unfoldable pub release : {S : Type 0} → State S → ℕ → List ℕ → Step S ℕ
release s n name = let i = first_by (is_peer n) s.slots in release_at s i (slot_at s i) name

-- ---- piece

-- a refused piece reports its answer, nobody, and that no byte was taken (rule 8.1)
abbrev pub no_piece : ℕ → Taken
no_piece a = record { judgement = refusal a; taken = 0 }

-- what the bytes that joined come to: 10, one of 1 to 9, or a whole message, which is judged at once, over the state in which it is consumed already
-- (rules 7.11, 9.1 and 9.2)
abbrev pub offered : {S : Type 0} → List ℕ → State S → ℕ → Peer S → ℕ → Verdict → Step S Taken
offered image s i p taken more = stays s (record { judgement = refusal (verdict_answer more); taken = taken })
offered image s i p taken (broken a) = stays s (record { judgement = refusal (verdict_answer (broken a)); taken = taken })
offered image s i p taken (whole h x) =
    let j = judged image s i p h x in
    record { state = j.state; result = record { judgement = j.judgement; taken = taken } }

-- the offer's bytes join the stream of the peer in slot i, and a message that ends leaves it (rule 9.1)
abbrev pub offered_to : {S : Type 0} → Streams S → List ℕ → State S → ℕ → Peer S → Offer S → Step S Taken
offered_to O image s i p o =
    let q = with_stream p (settled O o.verdict o.stream) in
    offered image (put_slot s i (peer q)) i q o.taken o.verdict

-- 30 and 40 in this order; a stream once closed stays so while the peer is connected (rules 8.6 and 9.3)
abbrev pub piece_at : {S : Type 0} → Streams S → List ℕ → State S → ℕ → Slot S → List ℕ → Step S Taken
piece_at O image s i free bytes = stays s (no_piece 30)
piece_at O image s i (peer p) bytes =
    cond (O.closed p.stream) (stays s (no_piece 40)) (offered_to O image s i p (offer O p.stream bytes))

-- the peer with number n offers bytes (rule 8.6)
unfoldable pub piece : {S : Type 0} → Streams S → List ℕ → State S → ℕ → List ℕ → Step S Taken
piece O image s n bytes = let i = first_by (is_peer n) s.slots in piece_at O image s i (slot_at s i) bytes

-- ---- disconnect

-- a refused disconnect reports its answer and a zero (rule 8.1)
abbrev pub no_gone : ℕ → Gone
no_gone a = record { answer = a; bytes = 0 }

-- its names and the calls that it awaits go with its slot, and whoever awaited it does so no longer (rule 8.7)
abbrev pub disconnect_at : {S : Type 0} → Streams S → State S → ℕ → Slot S → Step S Gone
disconnect_at O s i free = stays s (no_gone 30)
disconnect_at O s i (peer p) =
    record {
      state = record { last = s.last; tick = s.tick; slots = map (remove_calls (is_to p.number)) (set s.slots i free) };
      result = record { answer = 0; bytes = O.count p.stream };
    }

-- the peer with number n goes (rule 8.7)
unfoldable pub disconnect : {S : Type 0} → Streams S → State S → ℕ → Step S Gone
disconnect O s n = let i = first_by (is_peer n) s.slots in disconnect_at O s i (slot_at s i)

-- ---- tick

-- a refused tick reports its answer and that no call ended (rule 8.1)
abbrev pub no_tick : ℕ → Ticked
no_tick a = record { answer = a; ended = 0 }

-- 41 for a tick below the last one; else it is the last from now on, and every pending call that is at least `limit` ticks old ends (rule 8.12)
unfoldable pub tick : {S : Type 0} → State S → ℕ → ℕ → Step S Ticked
tick s now limit =
    cond (ltb now s.tick) (stays s (no_tick 41))
    (record {
      state = record { last = s.last; tick = now; slots = map (remove_calls (expired now limit)) s.slots };
      result = record { answer = 0; ended = count_in (expired now limit) s.slots };
    })
