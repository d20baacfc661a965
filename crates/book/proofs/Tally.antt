-- Each call keeps a peer's pending calls what the tally says of them, whatever streams are made of.
use mathlib.Core.Path.{◌≡◌, refl, sym, ap, ◌∙◌, subst}
use mathlib.Core.Bool.{Bool, false, cond, ◌&&◌, false≢true}
use mathlib.Core.List.{List}
use Prim.Native.Nat.{ℕ, ◌+◌, ◌≤◌, ◌<◌}
use native.Mathlib.Omega.{arith}
use native.Mathlib.Decide.{ℕ_discrete}
use lib.Dec.{eqb, ltb}
use lib.ListN.{length, get_or, set, get_or-map}
use borrow.Author.Tests.{eqb-true, eq-eqb, ne_eqb, ltb-true}
use Rattle.header.specs.declared.Header.{Header}
use Rattle.policy.specs.Names.{owns}
use Rattle.policy.specs.Decisions.{connect_decision, own_decision}
use Rattle.stream.specs.Stream.{Streams}
use Rattle.rules.specs.State.{Pending, Slot, free, peer, Peer, State, is_free, is_peer, first_by, put_slot, with_pending}
use Rattle.rules.specs.Addresses.{ownable}
use Rattle.rules.specs.Pending.{is_to, expired, remove_calls}
use Rattle.rules.specs.Judge.{Judged, judged}
use Rattle.rules.specs.Calls.{Step, stays, no_connect, seated, connect_at, connect, slot_at, own_new, own_at, own, release_at, release}
use Rattle.rules.specs.Calls.{disconnect_at, disconnect, tick}
use Rattle.rules.specs.declared.Connected.{Connected}
use Rattle.rules.specs.declared.Owned.{Owned}
use Rattle.rules.specs.declared.Ticked.{Ticked}
use Rattle.wire.proofs.Tests.{choice, refute}
use Rattle.rules.proofs.Replies.{reply_only}
use Rattle.rules.proofs.First.{taken_below, number_found}
use Rattle.sound.proofs.Slots.{put_cases, Single}
use Rattle.sound.proofs.Judged.{judged_any}
use Rattle.book.specs.Tally.{Tally, no_calls, calls_ended, callee_left, calls_expired, message_passed}
use Rattle.book.proofs.Counts.{Right, right_none, right_admitted, right_replied, right_ended}

-- peer n, if the slot is its, has the pending calls that the tally says
abbrev pub RightAt : {S : Type 0} → ℕ → Tally → Slot S → Type 0
RightAt n t free = Unit
RightAt n t (peer p) = p.number ≡ n → Right t p.pending

abbrev pub Counts : {S : Type 0} → ℕ → Tally → State S → Type 0
Counts n t s = (j : ℕ) → RightAt n t (slot_at s j)

module _ {S : Type 0} (n : ℕ) where
  -- another peer's slot says nothing
  other_right : (t : Tally) (y : Slot S) → is_peer n y ≡ false → RightAt n t y
  other_right t free e = tt
  other_right t (peer p) e = λ q. absurd (false≢true (sym e ∙ eq-eqb p.number n q))

  -- ---- a peer put anew, with its number

  module _ (s : State S) (t : Tally) (single : Single (is_peer n) s.slots) (c : Counts n t s) where
    pub put_counts : (i : ℕ) (p q : Peer S) (u : Tally) → slot_at s i ≡ peer p → q.number ≡ p.number
        → (p.number ≡ n → Right t p.pending → Right u q.pending)
        → ((p.number ≡ n → ⊥) → u ≡ t)
        → Counts n u (put_slot s i (peer q))
    put_counts i p q u e k f g j =
        put_cases (RightAt n u) s.slots i (peer q) (taken_below s.slots i p e) j
        (λ z m. f (sym k ∙ m) (subst (RightAt n t) e (c i) (sym k ∙ m)))
        (λ z. elim (ℕ_discrete p.number n) [
          | yes m ↦ other_right u (slot_at s j) (refute (is_peer n (slot_at s j)) (λ h. z (single j i h (ap (is_peer n) e ∙ eq-eqb p.number n m))))
          | no m ↦ subst (λ (v : Tally). RightAt n v (slot_at s j)) (sym (g m)) (c j)
        ])

    -- what is no pending call of its may change
    pub same_counts : (i : ℕ) (p q : Peer S) → slot_at s i ≡ peer p → q.number ≡ p.number → q.pending ≡ p.pending → Counts n t (put_slot s i (peer q))
    same_counts i p q e k w = put_counts i p q t e k (λ m r. rw w r) (λ m. refl)

    -- and what is counted for it alone
    own_counts : (i : ℕ) (p : Peer S) (ws : List Pending) (u : Tally) → slot_at s i ≡ peer p → (Right t p.pending → Right u ws)
        → Counts n (cond (eqb p.number n) u t) (put_slot s i (peer (with_pending p ws)))
    own_counts i p ws u e f =
        put_counts i p (with_pending p ws) _ e refl (λ m r. rw (eq-eqb p.number n m) (f r)) (λ m. rw (ne_eqb p.number n m))

    -- ---- a message judged

    module _ (image : List ℕ) (i : ℕ) (sender : Peer S) (e : slot_at s i ≡ peer sender) (x : Header) where
      -- what it is to the tally, as it was answered
      abbrev Kept : Judged S → Type 0
      Kept z = Counts n (cond (eqb z.judgement.answer 0) (message_passed n sender.number s.tick x z.judgement.receiver t) t) z.state

      pub judged_counts : (h : List ℕ) → Kept (judged image s i sender h x)
      judged_counts =
          judged_any image s i sender x Kept (λ a p q. choice (λ (u : Tally). Counts n u s) (eqb a 0) t t (λ z. c) (λ z. c)) (λ l. c) (λ d j k. k) c (λ m k. c)
          (λ j q y r w. rw (w, r) c)
          (λ j q y w a l. rw w (own_counts i sender _ _ e (λ r. right_admitted t sender.pending r q.number x.serial s.tick)))
          (λ j q y r a. rw (reply_only x r, r)
          (own_counts j q _ _ y (λ z. right_replied t q.pending z sender.number x.reply_serial a)))

    -- ---- own and release

    own_at_lem : (image : List ℕ) (i : ℕ) (y : Slot S) (name : List ℕ) → slot_at s i ≡ y → Counts n t (own_at image s i y name).state
    own_at_lem image i free name e = c
    own_at_lem image i (peer p) name e =
        let d = own_decision image (record { 0 = p.uid }) p.gids name in
        choice (λ (z : Step S Owned). Counts n t z.state) (ownable name) _ _
        (λ a. choice (λ (z : Step S ℕ). Counts n t z.state) d.allow (cond (owns p.names name) (stays s 0) (own_new s i p name)) (stays s 32)
        (λ b. search (choice (λ (z : Step S ℕ). Counts n t z.state), same_counts) depth 8) (λ b. c))
        (λ a. c)

    pub owned_counts : (image : List ℕ) (k : ℕ) (name : List ℕ) → Counts n t (own image s k name).state
    unfolding own
    owned_counts image k name = let i = first_by (is_peer k) s.slots in own_at_lem image i (slot_at s i) name refl

    release_at_lem : (i : ℕ) (y : Slot S) (name : List ℕ) → slot_at s i ≡ y → Counts n t (release_at s i y name).state
    release_at_lem i free name e = c
    release_at_lem i (peer p) name e = search (choice (λ (z : Step S ℕ). Counts n t z.state), same_counts) depth 8

    pub released_counts : (k : ℕ) (name : List ℕ) → Counts n t (release s k name).state
    unfolding release
    released_counts k name = let i = first_by (is_peer k) s.slots in release_at_lem i (slot_at s i) name refl

    -- ---- connect

    module _ (O : Streams S) (uid : ℕ) (gids : List ℕ) (low : (j : ℕ) (p : Peer S) → slot_at s j ≡ peer p → p.number ≤ s.last) where
      -- the tally after it: the newcomer's begins anew
      abbrev After : Step S Connected → Type 0
      After z = Counts n (cond (eqb z.result.answer 0 && eqb z.result.number n) no_calls t) z.state

      old_right : (y : Slot S) (u : Tally) (j : ℕ) → slot_at s j ≡ y → s.last + 1 ≡ n → RightAt n u y
      old_right free u j e k = tt
      old_right (peer p) u j e k = λ q. absurd (omega (arith, low j p e))

      seated_after : (i : ℕ) → i < length s.slots → After (seated O s i uid gids)
      seated_after i h =
          choice (λ (u : Tally). Counts n u (seated O s i uid gids).state) (eqb (s.last + 1) n) _ _
          (λ k j. put_cases (RightAt n no_calls) s.slots i _ h j (λ z q. right_none)
          (λ z. old_right (slot_at s j) no_calls j refl (eqb-true (s.last + 1) n k)))
          (λ k j. put_cases (RightAt n t) s.slots i _ h j (λ z q. absurd (false≢true (sym k ∙ eq-eqb (s.last + 1) n q))) (λ z. c j))

      pub connected_counts : (image : List ℕ) → After (connect O image s uid gids)
      unfolding connect
      connected_counts image =
          let d = connect_decision image (record { 0 = uid }) gids in
          choice After (ltb 16 (length gids)) _ _ (λ a. c)
          (λ a. choice After d.allow (connect_at O s (first_by is_free s.slots) uid gids) (stays s (no_connect 36))
          (λ b. search (choice After, seated_after, ltb-true)) (λ b. c))

    -- ---- calls that end by a test: disconnect and tick

    ended_right : (test : Pending → Bool) (y : Slot S) → RightAt n t y → RightAt n (calls_ended test t) (remove_calls test y)
    ended_right test free r = tt
    ended_right test (peer p) r = λ e. right_ended t p.pending (r e) test

    left_at : (O : Streams S) (k i : ℕ) (y : Slot S) → slot_at s i ≡ y → ((p : Peer S) → y ≡ peer p → p.number ≡ k)
        → Counts n (cond (eqb (disconnect_at O s i y).result.answer 0) (callee_left k t) t) (disconnect_at O s i y).state
    left_at O k i free e f = c
    left_at O k i (peer p) e f =
        λ j. rw (get_or-map (remove_calls (is_to p.number)) (set s.slots i free) j free, f p refl)
        (ended_right (is_to k) (get_or (set s.slots i free) j free) (put_cases (RightAt n t) s.slots i free (taken_below s.slots i p e) j (λ z. tt) (λ z. c j)))

    pub left_counts : (O : Streams S) (k : ℕ) → Counts n (cond (eqb (disconnect O s k).result.answer 0) (callee_left k t) t) (disconnect O s k).state
    unfolding disconnect
    left_counts O k = let i = first_by (is_peer k) s.slots in left_at O k i (slot_at s i) refl (number_found s.slots k)

    pub ticked_counts : (now limit : ℕ)
        → Counts n (cond (eqb (tick s now limit).result.answer 0) (calls_expired now limit t) t) (tick s now limit).state
    unfolding tick
    ticked_counts now limit =
        choice (λ (z : Step S Ticked). Counts n (cond (eqb z.result.answer 0) (calls_expired now limit t) t) z.state) (ltb now s.tick) _ _ (λ a. c)
        (λ a j. rw (get_or-map (remove_calls (expired now limit)) s.slots j free) (ended_right (expired now limit) (slot_at s j) (c j)))
