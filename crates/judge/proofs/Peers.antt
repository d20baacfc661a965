-- A call or a signal to one peer.
use Rattle.std.proofs.Common.{◌≡◌, refl, sym, ◌∙◌, true, false, not, List, ℕ, rules, None}
use borrow.Author.Tests.{not-true, not-false}
use Rattle.wire.proofs.Words.{Octets}
use Rattle.header.specs.declared.Header.{Header}
use Rattle.policy.specs.Decisions.{send, receive}
use Rattle.policy.specs.declared.Decider.{Decider}
use Rattle.policy.specs.declared.Decision.{Decision}
use Rattle.stream.specs.Tail.{Tail}
use Rattle.rules.specs.Judge.{Judged, refusal, judgement_by, judged_by, expects_reply}
use Rattle.rules.specs.declared.Judgement.{Judgement}
use Rattle.rules.specs.declared.Receiver.TheVariants as to
use Rattle.memory.specs.Places.{number_at}
use Rattle.slots.specs.Slots.{peer_at, Seated}
use Rattle.waits.specs.Waits.{JudgementLeft}
use Rattle.waits.specs.Waits.{Waits}
use Rattle.judge.specs.Steps.{Says, Delivers, ToPeer}
use Rattle.waits.proofs.Waits.{left_as_is}

-- ---- a message that may pass

module _ {m : List ℕ} {i j : ℕ} (x : Header) {c : ℕ} (e : c ≡ number_at m j) where
  pub delivers_call : expects_reply x ≡ true → {r : Judgement} {m' : List ℕ} → Waits m i c x.serial r m' → Delivers m i j x r m'
  delivers_call y w = record { left = rw y (w.left (peer_at m j) x (sym e) refl) }

  pub delivers_signal : Seated m i → Octets m → expects_reply x ≡ false
      → Delivers m i j x (record { answer = 0; receiver = to.Peer c; rule = None }) m
  delivers_signal p b y = record { left = rw y (left_as_is p b (rw e)) }

pub ruleset delivering = (delivers_call, delivers_signal, rules)

-- ---- 22, 23

-- whoever decided is shown, and nothing more is left
by_rule_lem : {j : Judged Tail} {k : Judgement} {m : List ℕ} → JudgementLeft j k m → (d : Decider) {r : Judgement} → r ≡ judgement_by d k
    → JudgementLeft (judged_by d j) r m
by_rule_lem w d q = record { judgement = q ∙ rw w.judgement; memory = w.memory }

module _ {image m : List ℕ} {i j : ℕ} {head : List ℕ} {x : Header} {s : Decision} (a : Says image send m i j head x s) where
  pub peer_unsent : Seated m i → Octets m → not s.allow ≡ true → {k r : Judgement} → k ≡ refusal 22 → r ≡ judgement_by s.rule k
      → ToPeer image m i j head x r m
  peer_unsent p b t e q = record { left = rw (← a.is, not-true s.allow t) (by_rule_lem (left_as_is p b e) s.rule q) }

  module _ (t : not s.allow ≡ false) {u : Decision} (d : Says image receive m j i head x u) where
    pub peer_unreceived : Seated m i → Octets m → not u.allow ≡ true → {k r : Judgement} → k ≡ refusal 23 → r ≡ judgement_by u.rule k
        → ToPeer image m i j head x r m
    peer_unreceived p b v e q =
        record { left = rw (← a.is, not-false s.allow t, ← d.is, not-true u.allow v) (by_rule_lem (left_as_is p b e) u.rule q) }

    pub peer_delivered : not u.allow ≡ false → {k r : Judgement} {m' : List ℕ} → Delivers m i j x k m' → r ≡ judgement_by u.rule k
        → ToPeer image m i j head x r m'
    peer_delivered v w q = record { left = rw (← a.is, not-false s.allow t, ← d.is, not-false u.allow v) (by_rule_lem w.left u.rule q) }

pub ruleset to_peer_lem = (peer_unsent, peer_unreceived, peer_delivered, rules)
