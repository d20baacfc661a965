-- A piece that ends a reply, over the model's state: it passes exactly where it is awaited, whatever bytes the peers have sent, and is then awaited no more.
use mathlib.Core.Path.{◌≡◌, refl, sym, ap, ◌∙◌}
use mathlib.Core.Bool.{Bool, true, false, cond}
use mathlib.Core.List.{List}
use mathlib.Core.Option.{Option}
use Prim.Native.Nat.{ℕ}
use lib.ListN.{set}
use lib.Seq.{set-get_or}
use Rattle.header.specs.declared.Header.{Header}
use Rattle.policy.specs.Matching.{field_of}
use Rattle.stream.specs.Tail.{Tail, fresh}
use Rattle.rules.specs.State.{Slot, free, peer, Peer, State, is_peer, first_by, put_slot, with_stream}
use Rattle.rules.specs.Addresses.{Address, undirected, bus, slot, unknown, resolve}
use Rattle.rules.specs.Judge.{is_reply, judged}
use Rattle.rules.specs.Calls.{Step, slot_at}
use Rattle.rules.specs.declared.Taken.{Taken}
use Rattle.rules.specs.View.{seen_slot, seen}
use Rattle.rules.proofs.First.{number_found}
use Rattle.rules.proofs.View.{same_seen, slot_seen, resolve_seen, put_seen}
use Rattle.rules.proofs.Waits.{ok_pending}
use Rattle.rules.specs.Awaited.{is_waiting, awaited, is_awaited}
use Rattle.rules.proofs.Replies.{reply_exact, reply_once}
use Rattle.sound.proofs.Kept.{Alone}
use Rattle.book.specs.Book.{books}
use Rattle.book.specs.Messages.{EndsMessage}
use Rattle.book.proofs.Pieces.{piece_under, consumed, ends_is}

-- a slot's pending calls are good by themselves
abbrev pub ok_slot : {S : Type 0} → Slot S → Bool
ok_slot free = true
ok_slot (peer p) = ok_pending p.pending

module _ {A B : Type 0} (f : A → B) where
  pub waiting_seen : (c r : ℕ) (y : Slot A) → is_waiting c r (seen_slot f y) ≡ is_waiting c r y
  waiting_seen c r = same_seen f (is_waiting c r) (is_waiting c r) refl (λ p. refl)

  pub ok_slots : (s : State A) (j : ℕ) → ok_slot (slot_at (seen f s) j) ≡ ok_slot (slot_at s j)
  ok_slots s j = ap ok_slot (slot_seen f s j) ∙ same_seen f ok_slot ok_slot refl (λ p. refl) (slot_at s j)

  pub awaited_seen : (s : State A) (n : ℕ) (h : List ℕ) (x : Header) → is_awaited (seen f s) n h x ≡ is_awaited s n h x
  awaited_seen s n h x =
      ap (awaited (seen f s).slots n x.reply_serial) (resolve_seen f s (field_of h x.destination))
      ∙ go (resolve s.slots (field_of h x.destination))
    where
      go : (a : Address) → awaited (seen f s).slots n x.reply_serial a ≡ awaited s.slots n x.reply_serial a
      go undirected = refl
      go bus = refl
      go unknown = refl
      go (slot j) = ap (is_waiting n x.reply_serial) (slot_seen f s j) ∙ waiting_seen n x.reply_serial (slot_at s j)

-- ---- another stream in a peer's slot

module _ {S : Type 0} (s : State S) (i : ℕ) (p : Peer S) (t : S) (e : slot_at s i ≡ peer p) where
  abbrev moved : State S
  moved = put_slot s i (peer (with_stream p t))

  -- streams not looked at
  abbrev unread : S → Tail
  unread x = fresh

  same_unread : seen unread moved ≡ seen unread s
  same_unread =
      let q : seen_slot unread (peer p) ≡ slot_at (seen unread s) i = ap (seen_slot unread) (sym e) ∙ sym (slot_seen unread s i) in
      sym (put_seen unread s i (peer (with_stream p t)))
      ∙ ap (λ (l : List (Slot Tail)). record { last = s.last; tick = s.tick; slots = l }) (ap (set (seen unread s).slots i) q ∙ set-get_or (seen unread s).slots i free)

  pub awaited_later : (n : ℕ) (h : List ℕ) (x : Header) → is_awaited moved n h x ≡ is_awaited s n h x
  awaited_later n h x = sym (awaited_seen unread moved n h x) ∙ ap (λ (z : State Tail). is_awaited z n h x) same_unread ∙ awaited_seen unread s n h x

  -- whom an address means is the same
  pub resolve_later : (d : Option (List ℕ)) → resolve moved.slots d ≡ resolve s.slots d
  resolve_later d = sym (resolve_seen unread moved d) ∙ ap (λ (z : State Tail). resolve z.slots d) same_unread ∙ resolve_seen unread s d

  pub ok_later : (j : ℕ) → ok_slot (slot_at moved j) ≡ ok_slot (slot_at s j)
  ok_later j = sym (ok_slots unread moved j) ∙ ap (λ (z : State Tail). ok_slot (slot_at z j)) same_unread ∙ ok_slots unread s j

-- ---- a piece that ends a reply

module _ (b : State (List ℕ)) (image : List ℕ) (n : ℕ) (bytes h : List ℕ) (x : Header) (m : EndsMessage b image n bytes h x) (r : is_reply x ≡ true) where
  abbrev place : ℕ
  place = first_by (is_peer n) b.slots

  abbrev sender : Peer (List ℕ)
  sender = m.takes.sender

  -- the sender and the state once the message is consumed
  abbrev done : Peer (List ℕ)
  done = consumed books (λ t. refl) image b n bytes sender

  abbrev later : State (List ℕ)
  later = put_slot b place (peer done)

  abbrev step : Step (List ℕ) Taken
  step = piece_under books (λ t. refl) image b n bytes

  number : done.number ≡ n
  number = number_found b.slots n sender m.takes.sits

  awaited_same : is_awaited later done.number h x ≡ is_awaited b n h x
  awaited_same = ap (λ (k : ℕ). is_awaited later k h x) number ∙ awaited_later b place sender done.stream m.takes.sits n h x

  -- a reply passes exactly where it is awaited
  pub piece_reply : step.result.judgement.answer ≡ cond (is_awaited b n h x) 0 24
  piece_reply = rw (ends_is books (λ t. refl) image b n bytes m.takes h x m.ended, reply_exact image later place done h x r, awaited_same)

  -- and is then awaited no more
  pub piece_replied : ((j : ℕ) → ok_slot (slot_at b j) ≡ true) → is_awaited b n h x ≡ true → is_awaited step.state n h x ≡ false
  piece_replied ok w =
      rw (ends_is books (λ t. refl) image b n bytes m.takes h x m.ended)
      (ap (λ (k : ℕ). is_awaited (judged image later place done h x).state k h x) (sym number)
      ∙ reply_once image later place done h x r
      (λ j p e. sym (ap ok_slot e) ∙ ok_later b place sender done.stream m.takes.sits j ∙ ok j) (awaited_same ∙ w))

pub alone_ok : (last tick : ℕ) (y : Slot Tail) → Alone last tick y → ok_slot y ≡ true
alone_ok last tick free a = refl
alone_ok last tick (peer p) a = a.waits
