-- What a report shows is who decided (rules 6.9, 7.12 and 8.10), whatever image, state, peers, streams and arguments there are: a rule of the section that
-- was asked, or that none matched, which goes with no answer but 22, 23, 32 and 36.
use Rattle.std.proofs.Common.{◌≡◌, refl, sym, ap, subst, ◌∙◌, ◌⊎◌, inl, inr, Bool, true, false, not, cond, List, [], ◌∷◌, ℕ, ◌<◌, eqb, ltb, length, get_or, eqb-true, Option, Some, None}
use mathlib.Core.Bool.{false≢true}
use borrow.Author.Tests.{eqb-false}
use Rattle.wire.proofs.Tests.{clash, choice, by_test}
use Rattle.image.specs.Image.{rule_count}
use Rattle.image.specs.declared.Section.{Section}
use Rattle.image.specs.declared.Section.TheVariants.{Connect, Own, Transaction}
use Rattle.header.specs.Codes.{call}
use Rattle.header.specs.declared.Header.{Header}
use Rattle.policy.specs.Names.{bus_name, owns}
use Rattle.policy.specs.Matching.{Message, message_of, field_of}
use Rattle.policy.specs.Decisions.{decides_in, decision_in, NamedRightly, connect_hits, connect_decision, own_hits, own_decision}
use Rattle.policy.specs.Decisions.{send, receive, transaction_hits, transaction_decision}
use Rattle.policy.specs.declared.Decider.{Decider}
use Rattle.policy.specs.declared.Decider.TheVariants.{Nobody, Rule}
use Rattle.policy.proofs.Deciders.{named_rightly}
use Rattle.stream.specs.Stream.{Verdict, more, broken, whole, Streams, offer, settled}
use Rattle.rules.specs.State.{Slot, free, peer, Peer, State, is_free, is_peer, first_by, put_slot, with_stream}
use Rattle.rules.specs.Addresses.{Address, undirected, bus, slot, unknown, ownable, resolve}
use Rattle.rules.specs.Judge.{Judged, refusal, refused, passed, judged_by, send_decision, receive_decision, to_bus, delivered, to_peer, to_all}
use Rattle.rules.specs.Judge.{reply_to, reply, to_slot, directed, is_reply, judged}
use Rattle.rules.specs.Calls.{Step, stays, no_connect, connect_at, connect, no_own, own_new, own_at, slot_at, own, offered, piece_at, piece}
use Rattle.rules.specs.Shows.{ShowsRightly, ShownRule, MessageShows, nothing, sends, receives}
use Rattle.rules.specs.declared.Receiver.TheVariants as to
use Rattle.rules.specs.declared.Judgement.{Judgement}
use Rattle.rules.specs.declared.Connected.{Connected}
use Rattle.rules.specs.declared.Owned.{Owned}
use Rattle.rules.specs.declared.Taken.{Taken}

-- ---- any section

-- where nothing is shown, nobody is
abbrev is_by : Option Decider → Bool
is_by None = false
is_by (Some d) = true

unshown : {r : Option Decider} {d : Decider} → r ≡ None → r ≡ Some d → ⊥
unshown p q = false≢true (sym (ap is_by p) ∙ ap is_by q)

-- an answer that denials have and nothing else tells whether it was allowed
tells : {A : Type 0} (answer : A → ℕ) (n : ℕ) (b : Bool) (x y : A) → eqb (answer x) n ≡ false → eqb (answer y) n ≡ true → b ≡ not (eqb (answer (cond b x y)) n)
tells answer n true x y p q = rw p
tells answer n false x y p q = rw q

refuses : (a n : ℕ) → not (eqb a n) ≡ false → a ≡ n
refuses a n h = by_test (eqb a n) (λ e. eqb-true a n e) (λ e. absurd (false≢true (sym h ∙ rw e)))

module _ (s : Section) (image : List ℕ) (hits : ℕ → Bool) where
  -- a rule that is shown is one of the section, matches, and its verdict is what was decided
  pub shown_position : (allow : Bool) (r : Option Decider) (t : Section) (i : ℕ) → ShowsRightly s image hits allow r → r ≡ Some (Rule t i)
      → ShownRule s image hits allow t i
  shown_position allow r t i h e =
      let n = subst (ShowsRightly s image hits allow) e h in
      record { asked = n.0; inside = n.1.0.inside; fits = n.1.0.fits; verdict = n.1.1 }

  -- where none matched, it was denied
  denied : (a n : ℕ) (r : Option Decider) → ShowsRightly s image hits (not (eqb a n)) r → r ≡ Some Nobody → a ≡ n
  denied a n r h e = refuses a n (subst (ShowsRightly s image hits (not (eqb a n))) e h).1

  -- a decision shows rightly by an answer that it has where it denies and nowhere else
  decided : {A : Type 0} (answer : A → ℕ) (n : ℕ) (x y : A) → eqb (answer x) n ≡ false → eqb (answer y) n ≡ true
      → let d = decision_in s image (decides_in s image hits) in NamedRightly s image hits (not (eqb (answer (cond d.allow x y)) n)) d.rule
  decided answer n x y p q =
      let d = decision_in s image (decides_in s image hits) in
      subst (λ (b : Bool). NamedRightly s image hits b d.rule) (tells answer n d.allow x y p q) (named_rightly s image hits)

-- ---- connect

module _ {S : Type 0} (O : Streams S) (image : List ℕ) (s : State S) (uid : ℕ) (gids : List ℕ) where
  abbrev connect_report : Connected
  connect_report = (connect O image s uid gids).result

  -- 37 shows nothing
  pub connect_unshown : ltb 16 (length gids) ≡ true → connect_report ≡ no_connect 37
  unfolding connect
  connect_unshown h = choice (λ (z : Step S Connected). z.result ≡ no_connect 37) (ltb 16 (length gids)) _ _ (λ e. refl) (λ e. absurd (clash h e))

  pub connect_shows : ltb 16 (length gids) ≡ false
      → ShowsRightly Connect image (connect_hits image (record { 0 = uid }) gids) (not (eqb connect_report.answer 36)) connect_report.rule
  unfolding connect connect_decision
  connect_shows h =
      let hits = connect_hits image (record { 0 = uid }) gids in
      choice (λ (z : Step S Connected). ShowsRightly Connect image hits (not (eqb z.result.answer 36)) z.result.rule) (ltb 16 (length gids)) _ _
      (λ e. absurd (clash e h))
      (λ e. decided Connect image hits (λ (z : Step S Connected). z.result.answer) 36
      (connect_at O s (first_by is_free s.slots) uid gids) (stays s (no_connect 36))
      (search (choice (λ (z : Step S Connected). eqb z.result.answer 36 ≡ false))) refl)

  pub connect_none_matched : connect_report.rule ≡ Some Nobody → connect_report.answer ≡ 36
  connect_none_matched n =
      by_test (ltb 16 (length gids)) (λ e. absurd (unshown (ap (λ (r : Connected). r.rule) (connect_unshown e)) n))
      (λ e. denied Connect image (connect_hits image (record { 0 = uid }) gids) connect_report.answer 36 connect_report.rule (connect_shows e) n)

-- ---- own

module _ {S : Type 0} (image : List ℕ) (s : State S) (n : ℕ) (name : List ℕ) where
  abbrev own_report : Owned
  own_report = (own image s n name).result

  -- 30 and 31 show nothing
  pub own_stranger : slot_at s (first_by (is_peer n) s.slots) ≡ free → own_report ≡ no_own 30
  unfolding own
  own_stranger h = ap (λ (y : Slot S). (own_at image s (first_by (is_peer n) s.slots) y name).result) h

  module _ (p : Peer S) (k : slot_at s (first_by (is_peer n) s.slots) ≡ peer p) where
    pub own_unownable : ownable name ≡ false → own_report ≡ no_own 31
    unfolding own
    own_unownable h =
        ap (λ (y : Slot S). (own_at image s (first_by (is_peer n) s.slots) y name).result) k
        ∙ choice (λ (z : Step S Owned). z.result ≡ no_own 31) (ownable name) _ _ (λ e. absurd (clash e h)) (λ e. refl)

    pub own_shows : ownable name ≡ true
        → ShowsRightly Own image (own_hits image (record { 0 = p.uid }) p.gids name) (not (eqb own_report.answer 32)) own_report.rule
    unfolding own own_decision
    own_shows h =
        let i = first_by (is_peer n) s.slots in
        let hits = own_hits image (record { 0 = p.uid }) p.gids name in
        subst (λ (y : Slot S). let r = (own_at image s i y name).result in ShowsRightly Own image hits (not (eqb r.answer 32)) r.rule) (sym k)
        (choice (λ (z : Step S Owned). ShowsRightly Own image hits (not (eqb z.result.answer 32)) z.result.rule) (ownable name) _ _
        (λ e. decided Own image hits (λ (z : Step S ℕ). z.result) 32 (cond (owns p.names name) (stays s 0) (own_new s i p name)) (stays s 32)
        (search (choice (λ (z : Step S ℕ). eqb z.result 32 ≡ false))) refl)
        (λ e. absurd (clash h e)))

  pub own_none_matched : own_report.rule ≡ Some Nobody → own_report.answer ≡ 32
  own_none_matched e = go (slot_at s (first_by (is_peer n) s.slots)) refl
    where
      go : (y : Slot S) → slot_at s (first_by (is_peer n) s.slots) ≡ y → own_report.answer ≡ 32
      go free k = absurd (unshown (ap (λ (r : Owned). r.rule) (own_stranger k)) e)
      go (peer p) k =
          by_test (ownable name)
          (λ h. denied Own image (own_hits image (record { 0 = p.uid }) p.gids name) own_report.answer 32 own_report.rule (own_shows p k h) e)
          (λ h. absurd (unshown (ap (λ (r : Owned). r.rule) (own_unownable p k h)) e))

-- ---- messages

module _ {S : Type 0} (image : List ℕ) (s : State S) (sender : Peer S) where
  abbrev answer_of : Judged S → ℕ
  answer_of j = j.judgement.answer

  abbrev rule_of : Judged S → Option Decider
  rule_of j = j.judgement.rule

  abbrev send_hits : List (List ℕ) → Message → ℕ → Bool
  send_hits names m = transaction_hits image send (record { 0 = sender.uid }) sender.gids names m

  pub bus_shows : (m : Message)
      → ShowsRightly Transaction image (send_hits (bus_name ∷ []) m) (not (eqb (answer_of (to_bus image s sender m)) 22)) (rule_of (to_bus image s sender m))
  unfolding transaction_decision
  bus_shows m = decided Transaction image (send_hits (bus_name ∷ []) m) answer_of 22 (passed s to.Bus) (refused s 22) refl refl

  module _ (i : ℕ) (receiver : Peer S) (m : Message) (x : Header) where
    abbrev at_peer : Judged S
    at_peer = to_peer image s i sender receiver m x

    abbrev receive_hits : ℕ → Bool
    receive_hits = transaction_hits image receive (record { 0 = receiver.uid }) receiver.gids sender.names m

    abbrev Sends : Judged S → Type 0
    Sends j = ShowsRightly Transaction image (send_hits receiver.names m) false (rule_of j)

    abbrev Receives : Judged S → Type 0
    Receives j = ShowsRightly Transaction image receive_hits (not (eqb (answer_of j) 23)) (rule_of j)

    -- receive was asked: whatever it says, the answer is not 22
    abbrev asked : Judged S
    asked =
        let received = receive_decision image receiver sender.names m in
        judged_by received.rule (cond received.allow (delivered s i sender receiver x) (refused s 23))

    asked_not_22 : (answer_of asked ≡ 22) → ⊥
    asked_not_22 =
        eqb-false (answer_of asked) 22
        (choice (λ (j : Judged S). eqb (answer_of j) 22 ≡ false) (receive_decision image receiver sender.names m).allow (delivered s i sender receiver x)
        (refused s 23) (λ e. search (choice (λ (j : Judged S). eqb (answer_of j) 22 ≡ false))) (λ e. refl))

    -- 22 shows send's, and every other answer receive's
    pub peer_shows : (answer_of at_peer ≡ 22 → Sends at_peer) × ((answer_of at_peer ≡ 22 → ⊥) → Receives at_peer)
    unfolding transaction_decision
    peer_shows =
        let sent = send_decision image sender receiver.names m in
        let hits = send_hits receiver.names m in
        choice (λ (j : Judged S). (answer_of j ≡ 22 → Sends j) × ((answer_of j ≡ 22 → ⊥) → Receives j)) sent.allow asked
        (judged_by sent.rule (refused s 22))
        (λ e. (
          λ a. absurd (asked_not_22 a),
          λ a. decided Transaction image receive_hits answer_of 23 (delivered s i sender receiver x) (refused s 23)
              (search (choice (λ (j : Judged S). eqb (answer_of j) 23 ≡ false))) refl,
        ))
        (λ e. (
          λ a. subst (λ (b : Bool). NamedRightly Transaction image hits b sent.rule) e (named_rightly Transaction image hits),
          λ a. absurd (a refl),
        ))

  -- ---- all else shows nothing

  reply_to_unshown : (j : ℕ) (y : Slot S) (x : Header) → rule_of (reply_to s j sender y x) ≡ None
  reply_to_unshown j free x = refl
  reply_to_unshown j (peer caller) x = search (choice (λ (j : Judged S). rule_of j ≡ None))

  -- replies, passed or 24
  pub reply_unshown : (a : Address) (x : Header) → rule_of (reply s sender a x) ≡ None
  reply_unshown undirected x = refl
  reply_unshown bus x = refl
  reply_unshown unknown x = refl
  reply_unshown (slot j) x = reply_to_unshown j (get_or s.slots j free) x

  -- what goes to everybody
  pub all_unshown : (m : Message) → rule_of (to_all image s sender m) ≡ None
  all_unshown m = refl

  -- what goes to nobody: 21
  pub nobody_unshown : (i : ℕ) (m : Message) (x : Header)
      → ((directed image s i sender unknown m x).judgement ≡ refusal 21) × ((to_slot image s i sender free m x).judgement ≡ refusal 21)
  nobody_unshown i m x = (refl, refl)

  -- types above 4: 20
  pub type_unshown : (i : ℕ) (h : List ℕ) (x : Header) → ltb 4 x.kind ≡ true → (judged image s i sender h x).judgement ≡ refusal 20
  unfolding judged
  type_unshown i h x e = choice (λ (j : Judged S). j.judgement ≡ refusal 20) (ltb 4 x.kind) _ _ (λ f. refl) (λ f. absurd (clash e f))

  -- ---- every message

  abbrev Shows : Judged S → Type 0
  Shows j = MessageShows image j.judgement

  to_bus_shows : (m : Message) → Shows (to_bus image s sender m)
  to_bus_shows m = sends (record { 0 = sender.uid }) sender.gids (bus_name ∷ []) m (bus_shows m)

  to_slot_shows : (i : ℕ) (y : Slot S) (m : Message) (x : Header) → Shows (to_slot image s i sender y m x)
  to_slot_shows i free m x = nothing refl
  to_slot_shows i (peer receiver) m x =
      let j = to_peer image s i sender receiver m x in
      by_test (eqb (answer_of j) 22)
      (λ e. sends (record { 0 = sender.uid }) sender.gids receiver.names m
      (subst (λ (b : Bool). ShowsRightly Transaction image (send_hits receiver.names m) (not b) (rule_of j)) (sym e)
      ((peer_shows i receiver m x).0 (eqb-true (answer_of j) 22 e))))
      (λ e. receives (record { 0 = receiver.uid }) receiver.gids sender.names m ((peer_shows i receiver m x).1 (eqb-false (answer_of j) 22 e)))

  directed_shows : (i : ℕ) (a : Address) (m : Message) (x : Header) → Shows (directed image s i sender a m x)
  directed_shows i undirected m x = choice Shows (eqb x.kind call) _ _ (λ e. to_bus_shows m) (λ e. nothing refl)
  directed_shows i bus m x = to_bus_shows m
  directed_shows i unknown m x = nothing refl
  directed_shows i (slot j) m x = to_slot_shows i (get_or s.slots j free) m x

  pub judged_shows : (i : ℕ) (h : List ℕ) (x : Header) → MessageShows image (judged image s i sender h x).judgement
  unfolding judged
  judged_shows i h x =
      let a = resolve s.slots (field_of h x.destination) in
      choice Shows (ltb 4 x.kind) _ _ (λ e. nothing refl)
      (λ e. choice Shows (is_reply x) _ _ (λ f. nothing (reply_unshown a x)) (λ f. directed_shows i a (message_of h x) x))

-- ---- every piece, over any streams

module _ {S : Type 0} (O : Streams S) (image : List ℕ) where
  abbrev Takes : Step S Taken → Type 0
  Takes z = MessageShows image z.result.judgement

  offered_shows : (s : State S) (i : ℕ) (p : Peer S) (taken : ℕ) (v : Verdict) → Takes (offered image s i p taken v)
  offered_shows s i p taken more = nothing refl
  offered_shows s i p taken (broken a) = nothing refl
  offered_shows s i p taken (whole h x) = judged_shows image s p i h x

  piece_at_shows : (s : State S) (i : ℕ) (y : Slot S) (bytes : List ℕ) → Takes (piece_at O image s i y bytes)
  piece_at_shows s i free bytes = nothing refl
  piece_at_shows s i (peer p) bytes =
      let o = offer O p.stream bytes in
      let q = with_stream p (settled O o.verdict o.stream) in
      choice Takes (O.closed p.stream) _ _ (λ c. nothing refl) (λ c. offered_shows (put_slot s i (peer q)) i q o.taken o.verdict)

  pub piece_shows : (s : State S) (n : ℕ) (bytes : List ℕ) → MessageShows image (piece O image s n bytes).result.judgement
  unfolding piece
  piece_shows s n bytes = let i = first_by (is_peer n) s.slots in piece_at_shows s i (slot_at s i) bytes

-- ---- what that comes to

module _ (image : List ℕ) (j : Judgement) where
  -- none matched: 22 or 23
  pub none_matched : MessageShows image j → j.rule ≡ Some Nobody → (j.answer ≡ 22) ⊎ (j.answer ≡ 23)
  none_matched (nothing n) e = absurd (unshown n e)
  none_matched (sends uid gids names m h) e = inl (denied Transaction image (transaction_hits image send uid gids names m) j.answer 22 j.rule h e)
  none_matched (receives uid gids names m h) e = inr (denied Transaction image (transaction_hits image receive uid gids names m) j.answer 23 j.rule h e)

  -- a rule: one of the transaction section
  pub rule_inside : (t : Section) (i : ℕ) → MessageShows image j → j.rule ≡ Some (Rule t i) → (t ≡ Transaction) × (i < rule_count Transaction image)
  rule_inside t i (nothing n) e = absurd (unshown n e)
  rule_inside t i (sends uid gids names m h) e =
      let r = shown_position Transaction image (transaction_hits image send uid gids names m) (not (eqb j.answer 22)) j.rule t i h e in
      (r.asked, r.inside)
  rule_inside t i (receives uid gids names m h) e =
      let r = shown_position Transaction image (transaction_hits image receive uid gids names m) (not (eqb j.answer 23)) j.rule t i h e in
      (r.asked, r.inside)
