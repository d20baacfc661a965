-- What 25 and 26 say of the sender's pending calls (rule 7.8): 25 is no answer where none of them is to that callee with that serial, and 26 none where there
-- is room.
use mathlib.Core.Path.{◌≡◌, refl, sym, ap, ◌∙◌}
use mathlib.Core.Bool.{true, false, false≢true}
use mathlib.Core.List.{List}
use Prim.Native.Nat.{ℕ, ◌≤◌, ◌<◌}
use native.Mathlib.Omega.{arith}
use lib.Dec.{ltb, leb}
use lib.ListN.{length, get_or}
use borrow.Author.Tests.{eqb-true, eq-eqb}
use Rattle.header.specs.declared.Header.{Header}
use Rattle.policy.specs.Matching.{Message, message_of, field_of}
use Rattle.wire.proofs.Texts.{impossible}
use Rattle.wire.proofs.Tests.{clash, choice}
use Rattle.rules.specs.State.{Slot, free, peer, Peer, State, is_peer, first_by, put_slot}
use Rattle.rules.specs.Addresses.{slot, resolve}
use Rattle.rules.specs.Pending.{awaits}
use Rattle.rules.specs.Awaited.{is_waiting}
use Rattle.rules.specs.Judge.{Judged, send_decision, receive_decision, expects_reply, delivered, to_peer, reply_to, is_reply, judged}
use Rattle.rules.specs.Calls.{slot_at}
use Rattle.rules.specs.declared.Receiver.TheVariants as to
use Rattle.rules.proofs.First.{taken_below}
use Rattle.rules.proofs.Replies.{reply_only}
use Rattle.sound.proofs.Judged.{judged_any}
use Rattle.sound.proofs.Slots.{put_cases}
use Rattle.book.specs.Book.{books}
use Rattle.book.specs.Messages.{EndsMessage}
use Rattle.book.proofs.Pieces.{piece_under, consumed, ends_is}
use Rattle.book.proofs.Replied.{resolve_later}

-- the slot's peer has number c
pub record Seat {S : Type 0} (c : ℕ) (y : Slot S) : Type 0 where
  pub who : Peer S
  pub sits : y ≡ peer who
  pub number : who.number ≡ c

pub seat_of : {S : Type 0} (c : ℕ) (y : Slot S) → is_peer c y ≡ true → Seat c y
seat_of c free e = absurd (false≢true e)
seat_of c (peer p) e = record { who = p; sits = refl; number = eqb-true p.number c e }

-- ---- a judgement

module _ {S : Type 0} (image : List ℕ) (s : State S) (i : ℕ) (sender : Peer S) (h : List ℕ) (x : Header) where
  -- 26 says that there was no room
  pub full_judged : (judged image s i sender h x).judgement.answer ≡ 26 → 16 ≤ length sender.pending
  full_judged =
      judged_any image s i sender x (λ (z : Judged S). z.judgement.answer ≡ 26 → 16 ≤ length sender.pending)
      (λ a p q e. absurd (clash (eq-eqb a 26 e) q)) (λ l e. l) (λ d j f. f) (λ e. absurd (omega arith)) (λ m k e. absurd (omega arith))
      (λ j q y r w e. absurd (omega arith)) (λ j q y w a l e. absurd (omega arith)) (λ j q y r a e. absurd (omega arith)) h

  -- one that is let wait says that there was
  pub room_judged : expects_reply x ≡ true → (k : ℕ) → (judged image s i sender h x).judgement.receiver ≡ to.Peer k → length sender.pending < 16
  room_judged w k =
      judged_any image s i sender x (λ (z : Judged S). z.judgement.receiver ≡ to.Peer k → length sender.pending < 16)
      (λ a p q e. impossible cc) (λ l e. impossible cc) (λ d j f. f) (λ e. impossible cc) (λ m c e. impossible cc) (λ j q y r v e. absurd (clash w v))
      (λ j q y v a l e. l) (λ j q y r a e. absurd (clash w (reply_only x r))) h

  -- not 25
  abbrev Other : Judged S → Type 0
  Other z = z.judgement.answer ≡ 25 → ⊥

  reply_other : (k : ℕ) (q : Peer S) → Other (reply_to s k sender (peer q) x)
  reply_other k q = choice Other (awaits sender.number x.reply_serial q.pending) _ _ (λ a e. omega arith) (λ a e. omega arith)

  module _ (q : Peer S) (n : awaits q.number x.serial sender.pending ≡ false) where
    delivered_other : Other (delivered s i sender q x)
    delivered_other =
        choice Other (expects_reply x) _ _
        (λ a. rw n (choice Other (leb 16 (length sender.pending)) _ _ (λ c e. omega arith) (λ c e. omega arith))) (λ a e. omega arith)

    peer_other : (m : Message) → Other (to_peer image s i sender q m x)
    peer_other m =
        choice Other (send_decision image sender q.names m).allow _ _
        (λ a. choice Other (receive_decision image q sender.names m).allow _ _ (λ c. delivered_other) (λ c e. omega arith)) (λ a e. omega arith)

    pub judged_other : (k : ℕ) → resolve s.slots (field_of h x.destination) ≡ slot k → get_or s.slots k free ≡ peer q → Other (judged image s i sender h x)
    unfolding judged
    judged_other k means sits =
        rw (means, sits)
        (choice Other (ltb 4 x.kind) _ _ (λ a e. omega arith)
        (λ a. choice Other (is_reply x) _ _ (λ r. reply_other k q) (λ r. peer_other (message_of h x))))

-- ---- a piece that ends a call

module _ (b : State (List ℕ)) (image : List ℕ) (n : ℕ) (bytes h : List ℕ) (x : Header) (m : EndsMessage b image n bytes h x) where
  abbrev place : ℕ
  place = first_by (is_peer n) b.slots

  abbrev sender : Peer (List ℕ)
  sender = m.takes.sender

  abbrev done : Peer (List ℕ)
  done = consumed books (λ t. refl) image b n bytes sender

  abbrev later : State (List ℕ)
  later = put_slot b place (peer done)

  -- with its message consumed the sender has the number that it had
  seat_later : (c k : ℕ) → Seat c (slot_at b k) → Seat c (slot_at later k)
  seat_later c k t =
      put_cases (Seat c) b.slots place (peer done) (taken_below b.slots place sender m.takes.sits) k
      (λ e. let p : peer sender ≡ peer t.who = sym m.takes.sits ∙ ap (slot_at b) (sym e) ∙ t.sits in
      let w : sender ≡ t.who = cc in
      record { who = done; sits = refl; number = ap (λ (z : Peer (List ℕ)). z.number) w ∙ t.number })
      (λ e. t)

  pub piece_other : (c k : ℕ) → resolve b.slots (field_of h x.destination) ≡ slot k → is_peer c (slot_at b k) ≡ true
      → is_waiting c x.serial (slot_at b place) ≡ false
      → (piece_under books (λ t. refl) image b n bytes).result.judgement.answer ≡ 25
      → ⊥
  piece_other c k means callee unawaited =
      let t = seat_later c k (seat_of c (slot_at b k) callee) in
      let u : awaits t.who.number x.serial done.pending ≡ false = rw t.number (rw m.takes.sits at unawaited) in
      rw (ends_is books (λ t. refl) image b n bytes m.takes h x m.ended)
      (judged_other image later place done h x t.who u k
      (resolve_later b place sender done.stream m.takes.sits (field_of h x.destination) ∙ means) t.sits)

  pub piece_full : (piece_under books (λ t. refl) image b n bytes).result.judgement.answer ≡ 26 → 16 ≤ length sender.pending
  piece_full = rw (ends_is books (λ t. refl) image b n bytes m.takes h x m.ended) (full_judged image later place done h x)
