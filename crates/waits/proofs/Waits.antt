-- A call that waits, and a reply that ends the wait.
use Rattle.std.proofs.Common.{◌≡◌, refl, sym, ◌∙◌, List, ℕ, ◌≤◌, ◌<◌, arith, zero-add, ltb, length, rules, le-leb, Bool, true, false, Option, Some, None, is_some}
use borrow.Author.Tests.{lt-leb}
use Rattle.wire.proofs.Words.{Octets}
use Rattle.header.specs.declared.Header.{Header}
use Rattle.rules.specs.State.{first_by}
use Rattle.rules.specs.Pending.{is_call, awaits}
use Rattle.rules.specs.Judge.{refusal}
use Rattle.rules.specs.declared.Judgement.{Judgement}
use Rattle.rules.specs.declared.Receiver.TheVariants as to
use Rattle.rules.proofs.Waits.{awaits_first}
use Rattle.memory.specs.Encoding.{state_of}
use Rattle.memory.specs.Places.{number_at}
use Rattle.memory.proofs.Good.{good_is}
use Rattle.memory.proofs.Removal.{ended_without}
use Rattle.slots.specs.Slots.{peer_at, Seated, FoundIn}
use Rattle.slots.proofs.Searches.{found_some}
use Rattle.waits.specs.Waits.{JudgementLeft}
use Rattle.waits.specs.Waits.{Waits, RepliesTo, Began, CallRemoved}

-- ---- whether a call waits, by what the search for it came to

module _ (m : List ℕ) (i c s : ℕ) {f : Option ℕ} (a : FoundIn (is_call c s) (peer_at m i).pending 0 f) where
  waits_is : awaits c s (peer_at m i).pending ≡ is_some f
  waits_is = awaits_first c s (peer_at m i).pending ∙ found_some (is_call c s) (peer_at m i).pending 0 f a

-- ---- what changes no state leaves memory as it is

pub left_as_is : {m : List ℕ} {i : ℕ} (p : Seated m i) (b : Octets m) {r j : Judgement} → r ≡ j
    → JudgementLeft (record { judgement = j; state = state_of m }) r m
left_as_is {m} p b e = record { judgement = e; memory = sym (good_is m (λ j. (b j).fits) p.held.held) }

-- ---- a wait: 25, 26

module _ (m : List ℕ) (i : ℕ) (g : Seated m i) (c s : ℕ) {f : Option ℕ} (a : FoundIn (is_call c s) (peer_at m i).pending 0 f) where
  pub wait_twice : Octets m → {y : Bool} → y ≡ is_some f → y ≡ true → {r : Judgement} → r ≡ refusal 25 → Waits m i c s r m
  wait_twice b d l q = record { left = λ p x e y. rw (e, y, waits_is m i c s a, ← d, l) (left_as_is g b q) }

  module _ {v : Bool} (d : v ≡ is_some f) (l : v ≡ false) {n : ℕ} (h : n ≡ length (peer_at m i).pending) where
    pub wait_full : Octets m → {t : ℕ} → t ≤ n → 16 ≤ t → {r : Judgement} → r ≡ refusal 26 → Waits m i c s r m
    wait_full b k z q =
        let t = le-leb 16 (length (peer_at m i).pending) (omega arith) in
        record { left = λ p x e y. rw (e, y, waits_is m i c s a, ← d, l, t) (left_as_is g b q) }

    pub wait_begins : n < 16 → {m' : List ℕ} → Began m i c s m' → Waits m i c s (record { answer = 0; receiver = to.Peer c; rule = None }) m'
    wait_begins k z =
        let t = lt-leb 16 (length (peer_at m i).pending) (omega arith) in
        record { left = λ p x e y. rw (e, y, waits_is m i c s a, ← d, l, t) (record { judgement = refl; memory = z.is }) }

pub ruleset waiting = (wait_twice, wait_full, wait_begins, rules)

-- ---- a reply: 24

module _ (m : List ℕ) (i j : ℕ) (p : Seated m i) (x : Header) (b : Octets m) (c : ℕ) (e : c ≡ number_at m i) where
  pub reply_none : FoundIn (is_call c x.reply_serial) (peer_at m j).pending 0 None → {r : Judgement} → r ≡ refusal 24 → RepliesTo m i j x r m
  reply_none a q = record { left = rw (← e, waits_is m j c x.reply_serial a) (left_as_is p b q) }

  pub reply_ends : {k : ℕ} → FoundIn (is_call c x.reply_serial) (peer_at m j).pending 0 (Some k) → {d : ℕ} → d ≡ number_at m j → {m' : List ℕ}
      → CallRemoved m j k m'
      → RepliesTo m i j x (record { answer = 0; receiver = to.Peer d; rule = None }) m'
  reply_ends {k} a q g =
      let w = ended_without c x.reply_serial (peer_at m j).pending in
      let place : first_by (is_call c x.reply_serial) (peer_at m j).pending ≡ k
      = sym (a.is ∙ zero-add (first_by (is_call c x.reply_serial) (peer_at m j).pending)) in
      record { left = rw (← e, waits_is m j c x.reply_serial a) (record { judgement = rw q; memory = rw (w, place) g.is }) }

pub ruleset replying_to = (reply_none, reply_ends, rules)
