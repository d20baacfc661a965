-- What the list claim comes to, for the memory that a run has reached and the calls that follow there: messages, broken heads, replies and ticks.
use mathlib.Core.Path.{◌≡◌, refl, sym, ap, ◌∙◌, subst}
use mathlib.Core.Bool.{Bool, true, false, not, cond}
use mathlib.Core.List.{List, ◌∷◌, ◌++◌}
use Prim.Native.Nat.{ℕ, ◌+◌, ◌-◌, ◌≤◌, ◌<◌}
use native.Mathlib.Omega.{arith}
use lib.Dec.{ltb}
use lib.ListN.{length, get_or-map}
use lib.Seq.{get_or-set_same}
use borrow.Author.Tests.{ltb-false, le-ltb, le-leb, lt-leb, eq-eqb}
use Rattle.header.specs.declared.Header.{Header}
use Rattle.stream.specs.Stream.{broken}
use Rattle.stream.specs.Tail.{Tail, judge}
use Rattle.policy.specs.Matching.{field_of}
use Rattle.rules.specs.State.{Pending, free, peer, Peer, State, is_peer, first_by, with_stream}
use Rattle.rules.specs.Addresses.{slot, resolve}
use Rattle.rules.specs.Pending.{expired, ended_where, remove_calls, pending_in, pending_all}
use Rattle.rules.specs.Judge.{is_reply}
use Rattle.rules.specs.Calls.{Step, empty, slot_at, disconnect, tick}
use Rattle.rules.specs.declared.Taken.{Taken}
use Rattle.rules.specs.declared.Gone.{Gone}
use Rattle.rules.specs.declared.Ticked.{Ticked}
use Rattle.rules.specs.View.{seen_peer, seen_slot, seen, seen_step}
use Rattle.rules.proofs.View.{chosen, same_seen, slot_seen, resolve_seen}
use Rattle.rules.proofs.Seen.{tick_seen}
use Rattle.rules.proofs.Waits.{ok_pending}
use Rattle.rules.proofs.Expiry.{tick_reports, tick_waits}
use Rattle.wire.proofs.Tests.{by_test}
use Rattle.rules.proofs.First.{taken_below, number_found}
use Rattle.rules.specs.Awaited.{is_waiting, waits_young, is_awaited}
use Rattle.rules.proofs.Replies.{gone_unawaited}
use Rattle.memory.specs.Layout.{memory_length}
use Rattle.memory.specs.Encoding.{state_of}
use Rattle.sound.proofs.Kept.{Alone, sound_kept}
use Rattle.sound.proofs.Put.{peer_fine}
use Rattle.book.specs.Book.{first_verdict, is_whole, books, kept_tail, tail_view}
use Rattle.book.specs.Lists.{Call, starts, offers, leaves, ticks, Answer, taken, gone, ticked, number_of, model_step, answers, after, Ran, Run, Reached}
use Rattle.book.specs.Split.{joined_pieces}
use Rattle.book.specs.Bench.{asks, last_of, worked_answer}
use Rattle.book.specs.Messages.{Messages, Parted, EndsMessage, BrokenIn, PendingIn}
use Rattle.book.proofs.List.{Holds, Told, one, started, run_claim}
use Rattle.book.proofs.Tails.{judge_broken}
use Rattle.book.proofs.Runs.{reached_holds, held_state, held_slot}
use Rattle.book.proofs.Messages.{parted, tail_behind, good_broken}
use Rattle.rules.specs.Places.{is_judged}
use Rattle.book.proofs.Never.{book_faults}
use Rattle.sound.proofs.Pieces.{offer_faults}
use Rattle.book.proofs.Expiry.{one_young, ended_fewer, tick_peer, tick_resolve}
use Rattle.book.proofs.Waiting.{piece_other, piece_full}
use Rattle.book.proofs.Counted.{one_slot}
use Rattle.book.proofs.Pieces.{piece_under, piece_breaks, piece_ends}
use Rattle.book.proofs.Replied.{ok_slot, waiting_seen, ok_slots, awaited_seen, piece_reply, piece_replied, alone_ok}

-- ---- a reply over memory that holds the model's state

-- it passes exactly where memory has the call that it answers
reply_told : {m e : List ℕ} {b : State (List ℕ)} → Holds m b → {image : List ℕ} {n : ℕ} {bytes : List ℕ} {r : Taken}
    → Ran m e (offers image n bytes) (taken r)
    → (h : List ℕ) (x : Header) → EndsMessage b image n bytes h x → is_reply x ≡ true → r.judgement.answer ≡ cond (is_awaited (state_of m) n h x) 0 24
unfolding model_step
reply_told {b = b} holds {image = image} {n = n} {bytes = bytes} ran h x ends reply =
    ap number_of (one b holds ran).answer ∙ piece_reply b image n bytes h x ends reply
    ∙ ap (λ (c : Bool). cond c 0 24) (sym (ap (λ (s : State Tail). is_awaited s n h x) (held_state holds) ∙ awaited_seen tail_view b n h x))

-- ---- where a run has come to

module _ {cs : List Call} {m : List ℕ} (run : Reached m cs) where
  -- the model's state
  abbrev now : State (List ℕ)
  now = after empty cs

  -- memory has the model's peers, each stream as the guard keeps it
  pub slots_are : (i : ℕ) → slot_at (state_of m) i ≡ seen_slot tail_view (slot_at now i)
  slots_are i = held_slot (reached_holds run) i

  -- of a stream that is whole messages and then others, memory has the count and the head of the others
  pub messages_then : (i : ℕ) (p : Peer (List ℕ)) → slot_at now i ≡ peer p → (ms : List (List ℕ)) (ys : List ℕ) → Messages ms → is_whole (first_verdict ys) ≡ false
      → p.stream ≡ joined_pieces ms ++ ys
      → slot_at (state_of m) i ≡ peer (seen_peer (λ xs. kept_tail ys) p)
  messages_then i p e ms ys w u q =
      slots_are i ∙ ap (seen_slot tail_view) e ∙ ap (λ (t : Tail). peer (seen_peer (λ xs. t) p)) (ap tail_view q ∙ tail_behind ms ys w u)

  -- and every stream is such
  pub stream_is : (i : ℕ) (p : Peer (List ℕ)) → slot_at now i ≡ peer p
      → (c : Parted p.stream) × (slot_at (state_of m) i ≡ peer (seen_peer (λ xs. kept_tail c.present) p))
  stream_is i p e = let c = parted p.stream in (c, messages_then i p e c.messages c.present c.are c.unfinished c.bytes)

  -- who is awaited is connected
  pub awaited_connected : (i n serial : ℕ) → is_waiting n serial (slot_at (state_of m) i) ≡ true → (j : ℕ) × (is_peer n (slot_at (state_of m) j) ≡ true)
  awaited_connected i n serial w =
      let h = reached_holds run in
      let q = held_state h in
      let k = (sound_kept h.sound).callees i n serial (ap (λ (s : State Tail). is_waiting n serial (slot_at s i)) (sym q) ∙ w) in
      (k.0, ap (λ (s : State Tail). is_peer n (slot_at s k.0)) q ∙ k.1)

  now_ok : (j : ℕ) → ok_slot (slot_at now j) ≡ true
  now_ok j = sym (ok_slots tail_view now j) ∙ alone_ok now.last now.tick (slot_at (seen tail_view now) j) ((sound_kept (reached_holds run).sound).each j)

  -- ---- a piece offered there

  module _ {image : List ℕ} {n : ℕ} {bytes : List ℕ} {r : Taken} {e : List ℕ} (ran : Ran m e (offers image n bytes) (taken r)) where
    told : Told (model_step now (offers image n bytes)) (taken r) e
    told = one now (reached_holds run) ran

    said : r.judgement.answer ≡ (piece_under books (λ t. refl) image now n bytes).result.judgement.answer
    unfolding model_step
    said = ap number_of told.answer

    -- 0 and 20 to 26 are answers about a message that the piece ends
    pub message_ended : is_judged r.judgement.answer ≡ true → (h : List ℕ) × (x : Header) × EndsMessage now image n bytes h x
    message_ended j =
        let w = piece_ends books (λ t. refl) image now n bytes (λ t a. offer_faults books book_faults t bytes a) (ap is_judged (sym said) ∙ j) in
        (w.1, w.2, record { takes = w.0; ended = w.3 })

    -- 1 to 6 are answered at byte 16 of a message, and 7 to 9 at the last byte of its head
    pub broken_where : 1 ≤ r.judgement.answer → r.judgement.answer ≤ 9 → BrokenIn e n r.judgement.answer
    unfolding model_step
    broken_where l k =
        let a = r.judgement.answer in
        let z = piece_breaks books (λ t. refl) image now n bytes a (sym said) l k in
        let i = first_by (is_peer n) now.slots in
        let p = z.takes.sender in
        let q = with_stream p z.stream in
        let t : slot_at (model_step now (offers image n bytes)).state i ≡ peer q
        = ap (λ (s : State (List ℕ)). slot_at s i) z.state ∙ get_or-set_same now.slots i (peer q) free (taken_below now.slots i p z.takes.sits) in
        let v : judge (tail_view z.stream) ≡ broken a = judge_broken z.stream a z.reads in
        let g = (sound_kept told.holds.sound).each i in
        let u = slot_seen tail_view (model_step now (offers image n bytes)).state i ∙ ap (seen_slot tail_view) t in
        record {
          place = i;
          who = seen_peer tail_view q;
          sits = held_slot told.holds i ∙ ap (seen_slot tail_view) t;
          number = number_found now.slots n p z.takes.sits;
          reads = v;
          found = good_broken (tail_view z.stream) a (subst (Alone (model_step now (offers image n bytes)).state.last (model_step now (offers image n bytes)).state.tick) u g).tail v;
        }

    module _ (h : List ℕ) (x : Header) (ends : EndsMessage now image n bytes h x) (reply : is_reply x ≡ true) where
      -- a reply passes exactly where memory has the call that it answers
      pub reply_passes : r.judgement.answer ≡ cond (is_awaited (state_of m) n h x) 0 24
      reply_passes = reply_told (reached_holds run) ran h x ends reply

      passed_awaited : r.judgement.answer ≡ 0 → is_awaited now n h x ≡ true
      passed_awaited z =
          by_test (is_awaited now n h x) (λ e. e)
          (λ e. let q : 24 ≡ 0 = rw e at (sym (said ∙ piece_reply now image n bytes h x ends reply) ∙ z) in absurd (omega arith))

      -- and the same reply, sent again at once, does not
      pub second_reply_24 : r.judgement.answer ≡ 0 → {other bytes' d : List ℕ} {q : Taken} → Ran e d (offers other n bytes') (taken q)
          → EndsMessage (model_step now (offers image n bytes)).state other n bytes' h x
          → q.judgement.answer ≡ 24
      unfolding model_step
      second_reply_24 z {other} {bytes'} again ends' =
          let b = (model_step now (offers image n bytes)).state in
          let t = one b told.holds again in
          ap number_of t.answer ∙ piece_reply b other n bytes' h x ends' reply
          ∙ ap (λ (c : Bool). cond c 0 24) (piece_replied now image n bytes h x ends reply now_ok (passed_awaited z))

  -- ---- a peer that leaves

  -- nobody awaits it any more
  pub gone_awaited : {n : ℕ} {r : Gone} {e : List ℕ} → Ran m e (leaves n) (gone r) → r.answer ≡ 0
      → (j serial : ℕ) → is_waiting n serial (slot_at (state_of e) j) ≡ false
  unfolding model_step
  gone_awaited {n} ran z j serial =
      let t = one now (reached_holds run) ran in
      ap (is_waiting n serial) (held_slot t.holds j) ∙ waiting_seen tail_view n serial (slot_at (disconnect books now n).state j)
      ∙ gone_unawaited books now n (sym (ap number_of t.answer) ∙ z) j serial

  -- ---- a tick there

  module _ {new limit : ℕ} {r : Ticked} {e : List ℕ} (ran : Ran m e (ticks new limit) (ticked r)) where
    behind_holds : Told (model_step now (ticks new limit)) (ticked r) e
    behind_holds = one now (reached_holds run) ran

    -- what it reports and leaves is the rules' tick over what memory said
    ticks_told : tick (state_of m) new limit ≡ seen_step tail_view (tick now new limit)
    ticks_told = ap (λ (s : State Tail). tick s new limit) (held_state (reached_holds run)) ∙ tick_seen tail_view now new limit

    state_behind : state_of e ≡ (tick (state_of m) new limit).state
    unfolding model_step
    state_behind = held_state behind_holds.holds ∙ ap (λ (z : Step Tail Ticked). z.state) (sym ticks_told)

    report_is : r ≡ (tick (state_of m) new limit).result
    unfolding model_step
    report_is = let a = behind_holds.answer in let q : r ≡ (tick now new limit).result = cc in q ∙ ap (λ (z : Step Tail Ticked). z.result) (sym ticks_told)

    -- 41 exactly below the tick that memory holds
    pub tick_answered : r.answer ≡ cond (ltb new (state_of m).tick) 41 0
    unfolding tick
    tick_answered =
        ap (λ (y : Ticked). y.answer) report_is
        ∙ sym (chosen (λ (z : Step Tail Ticked). z.result.answer) (ltb new (state_of m).tick) _ _ _ _ refl refl)

    -- it reports how many calls fewer memory has
    pub tick_reported : pending_all (state_of e).slots + r.ended ≡ pending_all (state_of m).slots
    tick_reported = rw (state_behind, report_is) (tick_reports (state_of m) new limit)

    module _ (z : r.answer ≡ 0) where
      risen : (state_of m).tick ≤ new
      risen =
          by_test (ltb new (state_of m).tick) (λ q. let k : 41 ≡ 0 = rw q at (sym tick_answered ∙ z) in absurd (omega arith))
          (λ q. ltb-false new (state_of m).tick q)

      -- behind it a reply is awaited exactly where its call was pending and is less than `limit` ticks old
      pub tick_awaited : (j c serial : ℕ) → is_waiting c serial (slot_at (state_of e) j) ≡ waits_young new limit c serial (slot_at (state_of m) j)
      tick_awaited j c serial = rw state_behind (tick_waits (state_of m) new limit risen j c serial)

      module _ {j : ℕ} {w : Pending} (has : PendingIn m j w) where
        -- a call that was pending is so still exactly where it is less than `limit` ticks old
        pub pending_behind : is_waiting w.callee w.serial (slot_at (state_of e) j) ≡ not (expired new limit w)
        pending_behind =
            let ok : ok_pending has.who.pending ≡ true
            = ap ok_slot (sym has.sits ∙ slots_are j) ∙ same_seen tail_view ok_slot ok_slot refl (λ p. refl) (slot_at now j) ∙ now_ok j in
            tick_awaited j w.callee w.serial ∙ ap (waits_young new limit w.callee w.serial) has.sits
            ∙ rw has.among (one_young new limit has.before w has.later (rw has.among at ok))

        -- where it is that old it is pending no more, and its caller has room
        module _ (old : limit ≤ new - w.tick) where
          pub may_wait_again : is_waiting w.callee w.serial (slot_at (state_of e) j) ≡ false
          may_wait_again = pending_behind ∙ ap not (le-leb limit (new - w.tick) old)

          left_behind : slot_at (state_of e) j ≡ remove_calls (expired new limit) (slot_at (state_of m) j)
          unfolding tick
          left_behind = rw (state_behind, le-ltb new (state_of m).tick risen) (get_or-map (remove_calls (expired new limit)) (state_of m).slots j free)

          pub room_behind : pending_in (slot_at (state_of e) j) < 16
          room_behind =
              let t = seen tail_view now in
              let sits : slot_at t j ≡ peer has.who = ap (λ (s : State Tail). slot_at s j) (sym (held_state (reached_holds run))) ∙ has.sits in
              let few = (peer_fine t j has.who (reached_holds run).sound sits).few_pending in
              let less : length (ended_where (expired new limit) has.who.pending) < length has.who.pending
              = rw has.among (ended_fewer (expired new limit) has.before w has.later (le-leb limit (new - w.tick) old)) in
              rw (left_behind, has.sits) (omega arith)

          -- so the caller may make that call again, behind the tick: it is answered neither 25 nor 26
          module _ {image bytes d : List ℕ} {q : Taken} (called : Ran e d (offers image has.who.number bytes) (taken q)) (h : List ℕ) (x : Header)
              (ends : EndsMessage (model_step now (ticks new limit)).state image has.who.number bytes h x) where
            -- the model's state there, and the sender's slot in it
            abbrev behind : State (List ℕ)
            behind = (model_step now (ticks new limit)).state

            abbrev place : ℕ
            place = first_by (is_peer has.who.number) behind.slots

            seats : (c i : ℕ) → is_peer c (slot_at behind i) ≡ is_peer c (slot_at (state_of m) i)
            unfolding model_step
            seats c i =
                tick_peer now new limit c i ∙ sym (ap (is_peer c) (slots_are i) ∙ same_seen tail_view (is_peer c) (is_peer c) refl (λ p. refl) (slot_at now i))

            caller_is : place ≡ j
            caller_is =
                let n = has.who.number in
                let s = ends.takes.sender in
                one_slot behind_holds.holds n place j
                (ap (is_peer n) ends.takes.sits ∙ eq-eqb s.number n (number_found behind.slots n s ends.takes.sits))
                (seats n j ∙ ap (is_peer n) has.sits ∙ eq-eqb n n refl)

            call_said : q.judgement.answer ≡ (piece_under books (λ t. refl) image behind has.who.number bytes).result.judgement.answer
            unfolding model_step
            call_said = ap number_of (one behind behind_holds.holds called).answer

            pub again_not_25 : x.serial ≡ w.serial → (k : ℕ) → resolve (state_of m).slots (field_of h x.destination) ≡ slot k
                → is_peer w.callee (slot_at (state_of m) k) ≡ true
                → q.judgement.answer ≡ 25
                → ⊥
            unfolding model_step
            again_not_25 serial k means callee a =
                let c = w.callee in
                let d = field_of h x.destination in
                let unawaited : is_waiting c x.serial (slot_at behind place) ≡ false
                = rw (caller_is, serial)
                (sym (ap (is_waiting c w.serial) (held_slot behind_holds.holds j) ∙ waiting_seen tail_view c w.serial (slot_at behind j)) ∙ may_wait_again) in
                let address : resolve behind.slots d ≡ slot k
                = tick_resolve now new limit d
                ∙ sym (ap (λ (s : State Tail). resolve s.slots d) (held_state (reached_holds run)) ∙ resolve_seen tail_view now d) ∙ means in
                piece_other behind image has.who.number bytes h x ends c k address (seats c k ∙ callee) unawaited (sym call_said ∙ a)

            pub again_not_26 : q.judgement.answer ≡ 26 → ⊥
            again_not_26 a =
                let full = piece_full behind image has.who.number bytes h x ends (sym call_said ∙ a) in
                let same = ap pending_in (held_slot behind_holds.holds j) ∙ same_seen tail_view pending_in pending_in refl (λ p. refl) (slot_at behind j)
                ∙ ap (λ (i : ℕ). pending_in (slot_at behind i)) (sym caller_is) ∙ ap pending_in ends.takes.sits in
                omega (arith, room_behind)

        -- a reply to it: its callee sends it to the slot's peer, behind the tick
        module _ {image bytes d : List ℕ} {q : Taken} (replied : Ran e d (offers image w.callee bytes) (taken q)) (h : List ℕ) (x : Header)
            (ends : EndsMessage (model_step now (ticks new limit)).state image w.callee bytes h x) (reply : is_reply x ≡ true)
            (answers_it : x.reply_serial ≡ w.serial) (means : resolve (state_of m).slots (field_of h x.destination) ≡ slot j) where
          reply_behind : q.judgement.answer ≡ cond (not (expired new limit w)) 0 24
          reply_behind =
              let means' : resolve (state_of e).slots (field_of h x.destination) ≡ slot j
              = rw state_behind (tick_resolve (state_of m) new limit (field_of h x.destination) ∙ means) in
              reply_told behind_holds.holds replied h x ends reply ∙ rw (means', answers_it, pending_behind)

          -- too late
          pub late_reply_24 : limit ≤ new - w.tick → q.judgement.answer ≡ 24
          late_reply_24 l = reply_behind ∙ rw (le-leb limit (new - w.tick) l)

          -- in time
          pub timely_reply_0 : new - w.tick < limit → q.judgement.answer ≡ 0
          timely_reply_0 l = reply_behind ∙ rw (lt-leb limit (new - w.tick) l)

-- ---- answers do not depend on the memory's past

-- over any two memories of the right length a list that begins with a start gives the same answers and leaves the same bytes
pub past_forgotten : {m k d e : List ℕ} {cs : List Call} {xs ys : List Answer} → length m ≡ memory_length → length k ≡ memory_length
    → Run m (starts ∷ cs) xs d
    → Run k (starts ∷ cs) ys e
    → (xs ≡ ys) × (d ≡ e)
past_forgotten l₁ l₂ r₁ r₂ =
    let a = started empty l₁ r₁ in
    let z = started empty l₂ r₂ in
    (a.answered ∙ sym z.answered, a.holds.bytes ∙ sym z.holds.bytes)

-- and the model's answers from a start on do not depend on what it held
pub start_forgets : (b c : State (List ℕ)) (cs : List Call) → answers b (starts ∷ cs) ≡ answers c (starts ∷ cs)
unfolding answers model_step
start_forgets b c cs = refl

-- ---- the worked table

-- a run from a start over any memory of the right length shows what the table's question is answered with
pub guard_shows : {m e : List ℕ} {cs : List Call} {given : List Answer} → length m ≡ memory_length → Run m (starts ∷ cs) given e
    → last_of given ≡ worked_answer (asks (starts ∷ cs))
guard_shows l r = ap last_of (run_claim empty l r).answered
