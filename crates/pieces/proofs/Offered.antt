-- What a piece comes to, case by case.
use Rattle.std.proofs.Common.{Some, None}
use Rattle.std.proofs.Common.{◌≡◌, sym, ap, ◌∙◌, Bool, true, false, List, ℕ, ◌-◌, take, rules}
use native.Mathlib.Nat.{sub-zero}
use Rattle.wire.proofs.Words.{Octets}
use Rattle.wire.specs.Bytes.{pad}
use Rattle.header.specs.declared.Header.{Header}
use Rattle.image.specs.Promises.{GoodImage}
use Rattle.stream.specs.Stream.{whole, Offer, offer}
use Rattle.stream.specs.Tail.{Tail, tails, closed, fresh}
use Rattle.stream.specs.Promises.{verdict_of}
use Rattle.header.specs.declared.Fault.{Fault}
use Rattle.header.specs.Faults.{fault_number}
use Rattle.stream.specs.declared.Event.{Event}
use Rattle.stream.specs.declared.Event.TheVariants as event
use Rattle.stream.specs.declared.Advance.{Advance}
use Rattle.rules.specs.State.{Peer, peer, State, is_peer, put_slot, with_stream}
use Rattle.rules.specs.Judge.{refusal, judged}
use Rattle.rules.specs.Calls.{no_piece, offered_to, piece}
use Rattle.rules.specs.declared.Judgement.{Judgement}
use Rattle.rules.specs.declared.Taken.{Taken}
use Rattle.memory.specs.Layout.{head_room}
use Rattle.memory.specs.Encoding.{memory_of, state_of}
use Rattle.memory.specs.Sound.{Held}
use Rattle.memory.specs.Calls.{stored, Did}
use Rattle.memory.specs.Places.{FoundSlot}
use Rattle.slots.specs.Slots.{peer_at, Seated}
use Rattle.slots.proofs.Found.{did_stay, peer_none, peer_place, peer_some, peer_seated}
use Rattle.judge.specs.Judging.{JudgedMessage, Judges}
use Rattle.pieces.specs.Fed.{FedAt, cleared, head_in, Completed}
use Rattle.pieces.proofs.Copied.{head_length_lem}
use Rattle.pieces.proofs.Consumed.{consumed, consumed_again, consumed_peer, consumed_clear, consumed_head, completed}

-- ---- a whole message, once its head is copied and its stream cleared

module _ (image m d head : List ℕ) (i : ℕ) (x : Header) (c : Completed image m i x) (h : take x.head head ≡ head_in m i x.head) (e : d ≡ cleared m i) where
  pub judge_ready : JudgedMessage image d i (take (x.head - 0) head) x
  judge_ready =
      rw (sub-zero x.head, h, e)
      (record {
        good = c.good;
        sender = c.seat;
        read = c.read;
        long = head_length_lem m i x.head c.sized c.below c.small;
      })

  pub judge_left : (r : Judgement) (after : List ℕ) → Judges image d i (take (x.head - 0) head) x r after
      → Judges image (cleared m i) i (head_in m i x.head) x r after
  judge_left r after j = rw (sub-zero x.head, h, e) at j

pub ruleset judging = (judge_ready, judge_left, rules)

-- ---- an offer, by its verdict

module _ (image : List ℕ) (s : State Tail) (i : ℕ) (p : Peer Tail) (o : Offer Tail) where
  -- over the state z in which the message is consumed, and its peer q
  pub whole_step : (h : List ℕ) (x : Header) → o.verdict ≡ whole h x → (z : State Tail) (q : Peer Tail) → z ≡ put_slot s i (peer (with_stream p fresh))
      → q ≡ with_stream p fresh
      → offered_to tails image s i p o
      ≡ record { state = (judged image z i q h x).state; result = record { judgement = (judged image z i q h x).judgement; taken = o.taken } }
  whole_step h x e z q a b = rw (e, a, b)

module _ (image m bytes after : List ℕ) (f : Octets m) (i : ℕ) (s : Seated m i) (r : Advance)
    (d : FedAt m i (offer tails (peer_at m i).stream bytes) r after) where
  verdict_is : (e : Event) → r.event ≡ e
      → verdict_of (pad head_room (offer tails (peer_at m i).stream bytes).stream.head) e ≡ (offer tails (peer_at m i).stream bytes).verdict
  verdict_is e q = ap (verdict_of (pad head_room (offer tails (peer_at m i).stream bytes).stream.head)) (sym q) ∙ d.verdict

  pub offered_more : r.event ≡ event.More
      → Did (stored (offered_to tails image (state_of m) i (peer_at m i) (offer tails (peer_at m i).stream bytes)))
      (record { judgement = refusal 10; taken = r.taken }) after
  offered_more q = rw (sym (verdict_is event.More q)) (record { result = rw d.taken; memory = d.memory })

  pub offered_broken : (a : Fault) → r.event ≡ event.Broken a → (n : ℕ) → n ≡ fault_number a
      → Did (stored (offered_to tails image (state_of m) i (peer_at m i) (offer tails (peer_at m i).stream bytes)))
      (record { judgement = refusal n; taken = r.taken }) after
  offered_broken a q n k = rw (sym (verdict_is (event.Broken a) q), k) (record { result = rw d.taken; memory = d.memory })

  module _ (x : Header) (q : r.event ≡ event.Whole x) (g : GoodImage image) (c : closed (peer_at m i).stream ≡ false) where
    pub offered_ready : Completed image after i x
    offered_ready = completed m f i s image bytes after x g c d.bytes (verdict_is (event.Whole x) q)

    pub offered_whole : (j : Judgement) (end : List ℕ) → Judges image (cleared after i) i (head_in after i x.head) x j end
        → Did (stored (offered_to tails image (state_of m) i (peer_at m i) (offer tails (peer_at m i).stream bytes)))
        (record { judgement = j; taken = r.taken }) end
    offered_whole j end w =
        let o = offer tails (peer_at m i).stream bytes in
        let v = verdict_is (event.Whole x) q in
        let h = take x.head (pad head_room o.stream.head) in
        let z = state_of (memory_of (consumed m f i s)) in
        let p = peer_at (memory_of (consumed m f i s)) i in
        let l : cleared after i ≡ memory_of (consumed m f i s) = consumed_clear m f i s image bytes after x g c d.bytes v in
        let k : head_in after i x.head ≡ h = consumed_head m f i s image bytes after x g c d.bytes v in
        let u : Judges image (memory_of (consumed m f i s)) i h x j end = rw (l, k) at w in
        rw (whole_step image (state_of m) i (peer_at m i) o h x (sym v) z p (consumed_again m f i s) (consumed_peer m f i s))
        (record { result = rw (u.judgement, d.taken); memory = u.memory })

pub ruleset offering = (offered_more, offered_broken, offered_ready, offered_whole, rules)

-- ---- the piece

module _ (image m bytes : List ℕ) (f : Octets m) (g : Held m) (n : ℕ) (r : Taken) where
  pub piece_none : FoundSlot (is_peer n) m 0 None → r ≡ no_piece 30 → Did (stored (piece tails image (state_of m) n bytes)) r m
  unfolding piece
  piece_none d q = did_stay m f g r (piece tails image (state_of m) n bytes) (rw (peer_none n m d, q))

  module _ (i : ℕ) (d : FoundSlot (is_peer n) m 0 (Some i)) (c : Bool) (e : c ≡ closed (peer_at m i).stream) where
    pub piece_closed : c ≡ true → r ≡ no_piece 40 → Did (stored (piece tails image (state_of m) n bytes)) r m
    unfolding piece
    piece_closed t q = did_stay m f g r (piece tails image (state_of m) n bytes) (rw (peer_place n m i d, peer_some n m i d, ← e, t, q))

    pub piece_offered : c ≡ false → (after : List ℕ)
        → Did (stored (offered_to tails image (state_of m) i (peer_at m i) (offer tails (peer_at m i).stream bytes))) r after
        → Did (stored (piece tails image (state_of m) n bytes)) r after
    unfolding piece
    piece_offered t after o = rw (peer_place n m i d, peer_some n m i d, ← e, t) o

pub ruleset piecing = (peer_seated, piece_none, piece_closed, piece_offered, rules)
