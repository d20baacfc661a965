-- What an answer says of the piece that was given it, over any streams: 1 to 9 that a head broke, 0 and 20 to 26 that a message ended.
use mathlib.Core.Path.{◌≡◌, refl, sym, ap, ◌∙◌}
use mathlib.Core.Logic.{inl, inr}
use mathlib.Core.Bool.{true, false≢true}
use mathlib.Core.List.{List}
use Prim.Native.Nat.{ℕ, ◌≤◌}
use native.Mathlib.Omega.{arith}
use lib.Dec.{eqb}
use borrow.Author.Tests.{eqb-true, eq-eqb}
use Rattle.wire.proofs.Texts.{impossible}
use Rattle.image.specs.Good.{image_answer}
use Rattle.header.specs.declared.Header.{Header}
use Rattle.stream.specs.Stream.{Verdict, more, broken, whole, Streams, offer, settled}
use Rattle.stream.specs.Tail.{is_broken}
use Rattle.rules.specs.State.{Slot, free, peer, Peer, State, is_peer, first_by, put_slot, with_stream}
use Rattle.rules.specs.Judge.{judged}
use Rattle.rules.specs.Calls.{Step, slot_at, no_piece, offered, piece_at, piece}
use Rattle.rules.specs.declared.Taken.{Taken}
use Rattle.book.specs.Lists.{under_image}
use Rattle.book.specs.Messages.{Takes}
use Rattle.rules.specs.Places.{is_judged}
use Rattle.wire.proofs.Tests.{choice}
use Rattle.sound.proofs.Octets.{offer_judged}
use Rattle.sound.proofs.Numbers.{judged_low, judged_few, judged_proper}
use Rattle.book.proofs.Images.{image_refuses}
use Rattle.book.proofs.Ways.{at_open}

-- ---- numbers

judged_no_fault : (a : ℕ) → is_judged a ≡ true → 1 ≤ a → a ≤ 9 → ⊥
judged_no_fault a h l k = elim (judged_low a h) [ inl q ↦ omega arith | inr q ↦ omega (arith, q.0) ]

module _ {S : Type 0} (O : Streams S) where
  module _ (image : List ℕ) (z : State S) (i : ℕ) (q : Peer S) (k : ℕ) where
    fault_broken : (v : Verdict) (a : ℕ) → (offered image z i q k v).result.judgement.answer ≡ a → 1 ≤ a → a ≤ 9 → v ≡ broken a
    fault_broken more a e l m = absurd (omega arith)
    fault_broken (broken c) a e l m = ap broken e
    fault_broken (whole h x) a e l m =
        let j = (judged image z i q h x).judgement.answer in
        absurd (judged_no_fault j (judged_proper image z i q x h) (omega arith) (omega arith))

    judged_whole : (v : Verdict) → ((a : ℕ) → v ≡ broken a → (1 ≤ a) × (a ≤ 9)) → is_judged (offered image z i q k v).result.judgement.answer ≡ true
        → (h : List ℕ) × (x : Header) × (v ≡ whole h x)
    judged_whole more f e = absurd (false≢true e)
    judged_whole (broken c) f e = absurd (judged_no_fault c e (f c refl).0 (f c refl).1)
    judged_whole (whole h x) f e = (h, x, refl)

  module _ (shut : (t : S) → O.closed t ≡ is_broken (O.judge t)) (image : List ℕ) (s : State S) (n : ℕ) (bytes : List ℕ) where
    abbrev place : ℕ
    place = first_by (is_peer n) s.slots

    -- a piece under an image
    abbrev pub piece_under : Step S Taken
    piece_under = under_image no_piece image s (piece O image s n bytes)

    -- ---- a piece that is taken

    abbrev comes : (p : Peer S) → Verdict → Step S Taken
    comes p v =
        let o = offer O p.stream bytes in
        let q = with_stream p (settled O v o.stream) in
        offered image (put_slot s place (peer q)) place q o.taken v

    takes_is : (t : Takes O s image n) → piece_under ≡ comes t.sender (offer O t.sender.stream bytes).verdict
    takes_is t = rw (eq-eqb (image_answer image) 0 t.passed) (at_open O shut image n s t.sender t.sits t.unbroken bytes)

    takes_at : (y : Slot S) → slot_at s place ≡ y → image_answer image ≡ 0 → (piece_at O image s place y bytes).result.judgement.answer ≤ 26 → Takes O s image n
    takes_at free e i l = absurd (omega arith)
    takes_at (peer p) e i l =
        choice (λ (z : Step S Taken). z.result.judgement.answer ≤ 26 → Takes O s image n) (O.closed p.stream) _ _
        (λ c k. absurd (omega arith)) (λ c k. record { passed = i; sender = p; sits = e; unbroken = c }) l

    -- an answer below 30 says that it was
    pub low_takes : piece_under.result.judgement.answer ≤ 26 → Takes O s image n
    unfolding piece
    low_takes l =
        choice (λ (z : Step S Taken). z.result.judgement.answer ≤ 26 → Takes O s image n) (eqb (image_answer image) 0) _ _
        (λ e k. takes_at (slot_at s place) refl (eqb-true (image_answer image) 0 e) k) (λ e k. absurd (omega (arith, (image_refuses image e).high))) l

    -- ---- a head that breaks

    pub record Breaks (a : ℕ) : Type 0 where
      pub takes : Takes O s image n
      pub stream : S
      pub reads : O.judge stream ≡ broken a
      pub state : piece_under.state ≡ put_slot s place (peer (with_stream takes.sender stream))

    pub piece_breaks : (a : ℕ) → piece_under.result.judgement.answer ≡ a → 1 ≤ a → a ≤ 9 → Breaks a
    piece_breaks a e l k =
        let t = low_takes (omega arith) in
        let o = offer O t.sender.stream bytes in
        let c = takes_is t in
        let v = fault_broken image _ place _ _ o.verdict a (sym (ap (λ (z : Step S Taken). z.result.judgement.answer) c) ∙ e) l k in
        record {
          takes = t;
          stream = o.stream;
          reads = offer_judged O (broken a) (λ q. impossible cc) t.sender.stream bytes v;
          state = ap (λ (z : Step S Taken). z.state) (c ∙ ap (comes t.sender) v);
        }

    -- ---- a message that ends

    pub piece_ends : (faults : (t : S) (a : ℕ) → (offer O t bytes).verdict ≡ broken a → (1 ≤ a) × (a ≤ 9))
        → is_judged piece_under.result.judgement.answer ≡ true
        → (t : Takes O s image n) × (h : List ℕ) × (x : Header) × ((offer O t.sender.stream bytes).verdict ≡ whole h x)
    piece_ends faults j =
        let t = low_takes (judged_few piece_under.result.judgement.answer j) in
        let w = judged_whole image _ place _ _ (offer O t.sender.stream bytes).verdict (faults t.sender.stream)
        (ap (λ (z : Step S Taken). is_judged z.result.judgement.answer) (sym (takes_is t)) ∙ j) in
        (t, w.0, w.1, w.2)

    -- the sender, with its message consumed
    abbrev pub consumed : Peer S → Peer S
    consumed p = with_stream p (O.next (offer O p.stream bytes).stream)

    pub ends_is : (t : Takes O s image n) (h : List ℕ) (x : Header) → (offer O t.sender.stream bytes).verdict ≡ whole h x
        → piece_under ≡ comes t.sender (whole h x)
    ends_is t h x e = takes_is t ∙ ap (comes t.sender) e
