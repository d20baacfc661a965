-- The judgement of a whole message by its outcomes; it keeps a sound state sound.
use mathlib.Core.Path.{◌≡◌, refl}
use mathlib.Core.Bool.{true, false, cond}
use mathlib.Core.List.{List, [], ◌∷◌, ◌++◌}
use Prim.Native.Nat.{ℕ, ◌≤◌, ◌<◌}
use lib.Dec.{eqb}
use lib.ListN.{length, get_or}
use borrow.Author.Tests.{leb-true, leb-false, eq-eqb}
use Rattle.header.specs.declared.Header.{Header}
use Rattle.policy.specs.Names.{bus_name}
use Rattle.policy.specs.Matching.{Message}
use Rattle.policy.specs.declared.Decider.{Decider}
use Rattle.stream.specs.Tail.{Tail}
use Rattle.rules.specs.State.{Peer, Slot, free, peer, State, is_peer, put_slot, with_pending}
use Rattle.rules.specs.Addresses.{Address, undirected, bus, slot, unknown}
use Rattle.rules.specs.Pending.{awaits, ended}
use Rattle.rules.specs.Judge.{Judged, refused, passed, judged_by, send_decision, receive_decision, to_bus, expects_reply, delivered, to_slot, directed}
use Rattle.rules.specs.Judge.{reply_to, reply, is_reply, judged}
use Rattle.rules.specs.Places.{is_judged}
use Rattle.rules.specs.declared.Receiver.TheVariants as to
use Rattle.memory.specs.Sound.{Sound}
use Rattle.wire.proofs.Tests.{choice}
use Rattle.rules.proofs.Waits.{call}
use Rattle.sound.proofs.Slots.{somebody_of}
use Rattle.sound.proofs.Renew.{waits_sound, ended_sound}

-- ---- any judgement

-- what holds of every outcome holds of the judgement: of a refusal, of one for want of room, of a message passed aside from any wait, of a wait begun and
-- of a wait ended, whoever is shown to have decided
module _ {S : Type 0} (image : List ℕ) (s : State S) (i : ℕ) (sender : Peer S) (x : Header) (P : Judged S → Type 0)
    (refuses : (a : ℕ) → is_judged a ≡ true → eqb a 26 ≡ false → P (refused s a)) (full : 16 ≤ length sender.pending → P (refused s 26))
    (shown : (d : Decider) (j : Judged S) → P j → P (judged_by d j))
    (to_bus_lem : P (passed s to.Bus)) (to_all_lem : (mask count : ℕ) → P (passed s (to.Slots mask count)))
    (aside : (j : ℕ) (q : Peer S) → get_or s.slots j free ≡ peer q → is_reply x ≡ false → expects_reply x ≡ false → P (passed s (to.Peer q.number)))
    (begins : (j : ℕ) (q : Peer S) → get_or s.slots j free ≡ peer q → expects_reply x ≡ true → awaits q.number x.serial sender.pending ≡ false
    → length sender.pending < 16
    → P (passed (put_slot s i (peer (with_pending sender (sender.pending ++ (call q.number x.serial s.tick ∷ []))))) (to.Peer q.number)))
    (ends : (j : ℕ) (q : Peer S) → get_or s.slots j free ≡ peer q → is_reply x ≡ true → awaits sender.number x.reply_serial q.pending ≡ true
    → P (passed (put_slot s j (peer (with_pending q (ended sender.number x.reply_serial q.pending)))) (to.Peer q.number))) where
  reply_to_lem : (j : ℕ) (y : Slot S) → get_or s.slots j free ≡ y → is_reply x ≡ true → P (reply_to s j sender y x)
  reply_to_lem j free e r = refuses 24 refl refl
  reply_to_lem j (peer caller) e r = search (choice P)

  replied : is_reply x ≡ true → (a : Address) → P (reply s sender a x)
  replied r undirected = refuses 24 refl refl
  replied r bus = refuses 24 refl refl
  replied r unknown = refuses 24 refl refl
  replied r (slot j) = reply_to_lem j (get_or s.slots j free) refl r

  to_slot_lem : is_reply x ≡ false → (m : Message) (j : ℕ) (y : Slot S) → get_or s.slots j free ≡ y → P (to_slot image s i sender y m x)
  to_slot_lem r m j free e = refuses 21 refl refl
  to_slot_lem r m j (peer receiver) e =
      let sends = send_decision image sender receiver.names m in
      let receives = receive_decision image receiver sender.names m in
      choice P sends.allow _ _
      (λ a. shown receives.rule (cond receives.allow (delivered s i sender receiver x) (refused s 23)) (search (choice P, leb-true, leb-false) depth 8))
      (λ a. shown sends.rule (refused s 22) (refuses 22 refl refl))

  to_the_bus : (m : Message) → P (to_bus image s sender m)
  to_the_bus m =
      let sends = send_decision image sender (bus_name ∷ []) m in
      shown sends.rule (cond sends.allow (passed s to.Bus) (refused s 22)) (search (choice P))

  sent : is_reply x ≡ false → (m : Message) (a : Address) → P (directed image s i sender a m x)
  sent r m undirected = search (choice P, to_the_bus)
  sent r m bus = to_the_bus m
  sent r m unknown = refuses 21 refl refl
  sent r m (slot j) = to_slot_lem r m j (get_or s.slots j free) refl

  pub judged_any : (h : List ℕ) → P (judged image s i sender h x)
  unfolding judged
  judged_any h = search (choice P, replied, sent)

-- ---- it leaves a sound state

pub judged_sound : (image : List ℕ) (s : State Tail) (i : ℕ) (sender : Peer Tail) (x : Header) → Sound s → get_or s.slots i free ≡ peer sender
    → 1 ≤ x.serial
    → x.serial < 4294967296
    → (h : List ℕ) → Sound (judged image s i sender h x).state
judged_sound image s i sender x g e low high =
    judged_any image s i sender x (λ (j : Judged Tail). Sound j.state) (λ a p q. g) (λ l. g) (λ d j h. h) g (λ m c. g) (λ j q e r w. g)
    -- the receiver is in some slot, so that a wait for it may begin
    (λ j q r w n l. waits_sound s i sender g e q.number x.serial
    (somebody_of (is_peer q.number) refl s.slots j (rw r (eq-eqb q.number q.number refl))) n l low high)
    (λ j q r w n. ended_sound s j q g r sender.number x.reply_serial)
