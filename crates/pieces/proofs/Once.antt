-- A message that is whole in its piece is judged where it stands: its stream is between two messages before and after.
use Rattle.std.proofs.Common.{Some}
use Rattle.std.proofs.Common.{◌≡◌, refl, sym, ap, ◌∙◌, false, List, ℕ, ◌+◌, ◌-◌, ◌≤◌, arith, length, take, length-take-le, rules}
use native.Mathlib.Nat.{sub-zero}
use lib.Seq.{set-get_or}
use Rattle.wire.proofs.Words.{Octets}
use Rattle.wire.specs.Words.{word_at}
use Rattle.wire.specs.declared.Order.TheVariants.{Little}
use Rattle.header.specs.Header.{Reading, read_header}
use Rattle.header.specs.declared.Header.{Header}
use Rattle.std.specs.Prelude.{Ok}
use Rattle.header.proofs.Readings.{read_front, whole_fits}
use Rattle.image.specs.Promises.{GoodImage}
use Rattle.stream.specs.Stream.{Offer, offer}
use Rattle.stream.specs.Tail.{Tail, tails, closed, fresh}
use Rattle.stream.proofs.Once.{offer_once, none_taken}
use Rattle.rules.specs.State.{Slot, free, peer, is_peer, put_slot, with_stream}
use Rattle.rules.specs.Calls.{offered_to, piece}
use Rattle.rules.specs.declared.Judgement.{Judgement}
use Rattle.rules.specs.declared.Taken.{Taken}
use Rattle.memory.specs.Layout.{slot_start, taken_at, head_room}
use Rattle.memory.specs.Encoding.{state_of}
use Rattle.memory.specs.Places.{FoundSlot}
use Rattle.memory.specs.Sound.{Held}
use Rattle.memory.specs.Calls.{stored, Did}
use Rattle.slots.specs.Slots.{peer_at, Seated}
use Rattle.slots.proofs.Found.{peer_seated}
use Rattle.judge.specs.Judging.{JudgedMessage, Judges}
use Rattle.pieces.proofs.Seats.{peer_is, fine}
use Rattle.pieces.proofs.Offered.{whole_step, piece_offered, piecing}

-- a head that is whole is small, so that its length and its body's are a number of the machine
pub once_small : (bytes : List ℕ) (x : Header) {q : Reading} → q ≡ read_header bytes → q ≡ Ok x → x.head ≤ head_room
once_small bytes x a b = (whole_fits bytes x (sym a ∙ b)).head_small

module _ (image m bytes : List ℕ) (f : Octets m) (i : ℕ) (s : Seated m i) (n : (peer_at m i).stream.taken ≡ 0) where
  stream_is : (peer_at m i).stream ≡ fresh
  stream_is = none_taken (peer_at m i).stream (fine m f i s).tail n

  pub once_open : closed (peer_at m i).stream ≡ false
  unfolding read_header
  once_open = ap closed stream_is

  -- the peer and the state are what they are once the stream is cleared
  same_peer : peer_at m i ≡ with_stream (peer_at m i) fresh
  same_peer = ap (with_stream (peer_at m i)) stream_is

  same_state : state_of m ≡ put_slot (state_of m) i (peer (with_stream (peer_at m i) fresh))
  same_state =
      ap (λ (l : List (Slot Tail)). record { last = (state_of m).last; tick = (state_of m).tick; slots = l }) (sym (set-get_or (state_of m).slots i free))
      ∙ ap (put_slot (state_of m) i) (peer_is m f i s ∙ ap peer same_peer)

  module _ (x : Header) (q : Reading) (a : q ≡ read_header bytes) (b : q ≡ Ok x) where
    read_is : read_header bytes ≡ Ok x
    read_is = sym a ∙ b

    pub once_ready : GoodImage image → JudgedMessage image m i (take (x.head - 0) bytes) x
    once_ready g =
        let w = whole_fits bytes x read_is in
        rw (sub-zero x.head)
        (record {
          good = g;
          sender = s;
          read = read_front x.head bytes w.head_low (omega (arith, w.head_is)) ∙ read_is;
          long = length-take-le x.head bytes w.head_inside;
        })

    pub once_judged : (t : ℕ) → t ≡ x.head + x.body → t ≤ length bytes → (j : Judgement) (end : List ℕ) → Judges image m i (take (x.head - 0) bytes) x j end
        → Did (stored (offered_to tails image (state_of m) i (peer_at m i) (offer tails (peer_at m i).stream bytes)))
        (record { judgement = j; taken = t }) end
    once_judged t k l j end d =
        let o = offer tails (peer_at m i).stream bytes in
        let e = ap (λ (t : Tail). offer tails t bytes) stream_is ∙ offer_once bytes x read_is (rw (← k) l) in
        let u : Judges image m i (take x.head bytes) x j end = rw (sub-zero x.head) at d in
        rw (whole_step image (state_of m) i (peer_at m i) o (take x.head bytes) x (ap (λ (z : Offer Tail). z.verdict) e) (state_of m) (peer_at m i)
        same_state same_peer)
        (record { result = rw (u.judgement, k, ap (λ (z : Offer Tail). z.taken) e); memory = u.memory })

pub ruleset once = (once_small, once_open, once_ready, once_judged, rules)

-- ---- the piece of a stream of which no byte was taken

pub none_stands : (m : List ℕ) (i : ℕ) {w : ℕ} → w ≡ word_at Little m (slot_start i + taken_at) → w ≡ 0 → (peer_at m i).stream.taken ≡ 0
none_stands m i e z = sym e ∙ z

pub piece_once : (image m bytes : List ℕ) → Octets m → Held m → (n i : ℕ) → FoundSlot (is_peer n) m 0 (Some i)
    → {w : ℕ} → w ≡ word_at Little m (slot_start i + taken_at) → w ≡ 0 → (r : Taken) (after : List ℕ)
    → Did (stored (offered_to tails image (state_of m) i (peer_at m i) (offer tails (peer_at m i).stream bytes))) r after
    → Did (stored (piece tails image (state_of m) n bytes)) r after
piece_once image m bytes f g n i d e z r after o =
    piece_offered image m bytes f g n r i d false
    (sym (once_open image m bytes f i (peer_seated n m i d g) (none_stands m i e z))) refl after o

pub ruleset fresh_or_not = (none_stands, piece_once, piecing)
