-- A piece's first byte, over any streams that are closed exactly where they are broken and whose faults are 1 to 9: the laws that an offering asks.
use mathlib.Core.Path.{◌≡◌, refl, sym, ap, ◌∙◌}
use mathlib.Core.Logic.{inl, inr}
use mathlib.Core.Bool.{true, false, cond, false≢true}
use mathlib.Core.List.{List, [], ◌∷◌}
use Prim.Native.Nat.{ℕ, suc}
use native.Mathlib.Omega.{arith}
use lib.Seq.{get_or-set_same, set-set, set-get_or}
use borrow.Author.Tests.{lt-leb, le-leb}
use Rattle.header.specs.declared.Header.{Header}
use Rattle.stream.specs.Stream.{Verdict, more, broken, whole, Streams, Offer, bump, offer, settled}
use Rattle.stream.specs.Steps.{follows}
use Rattle.stream.specs.Tail.{is_broken}
use Rattle.stream.proofs.Offers.{offer_none, offer_step}
use Rattle.rules.specs.State.{Slot, free, peer, Peer, State, is_peer, first_by, put_slot, with_stream}
use Rattle.rules.specs.Judge.{refusal, judged}
use Rattle.rules.specs.Calls.{Step, stays, slot_at, no_piece, offered, offered_to, piece_at, piece}
use Rattle.rules.specs.declared.Taken.{Taken}
use Rattle.wire.proofs.Tests.{by_test}
use Rattle.rules.proofs.First.{first_set, taken_below}
use Rattle.rules.specs.Places.{is_stop, is_judged}
use Rattle.book.specs.Split.{said}
use Rattle.sound.proofs.Numbers.{judged_low, judged_proper}
use Rattle.book.proofs.Bytewise.{bumped, Refuses, Idle, idle_refuses, idles, Way, refuses, joins, decides, Laws}

-- a judged message ends no offering
judged_goes : (a : ℕ) → is_judged a ≡ true → is_stop a ≡ false
judged_goes a h =
    elim (judged_low a h)
    [ inl q ↦ rw q | inr (l, k) ↦ rw (le-leb 1 a (omega arith), lt-leb a 9 (omega arith), lt-leb 30 a (omega arith)) ]

module _ {S : Type 0} (O : Streams S) (shut : (t : S) → O.closed t ≡ is_broken (O.judge t)) (image : List ℕ) (n : ℕ) where
  abbrev pub step_of : State S → List ℕ → Step S Taken
  step_of s p = piece O image s n p

  module _ (s : State S) where
    abbrev place : ℕ
    place = first_by (is_peer n) s.slots

    nobody_refuses : slot_at s place ≡ free → Refuses step_of s
    unfolding piece
    nobody_refuses e = record { answer = 30; silent = refl; refused = λ p. ap (λ (y : Slot S). piece_at O image s place y p) e }

    module _ (q : Peer S) (e : slot_at s place ≡ peer q) where
      -- what an offer comes to
      abbrev comes : Offer S → Step S Taken
      comes o = offered_to O image s place q o

      at_peer_lem : (p : List ℕ) → step_of s p ≡ cond (O.closed q.stream) (stays s (no_piece 40)) (comes (offer O q.stream p))
      unfolding piece
      at_peer_lem p = ap (λ (y : Slot S). piece_at O image s place y p) e

      closed_refuses : O.closed q.stream ≡ true → Refuses step_of s
      closed_refuses c = record { answer = 40; silent = refl; refused = λ p. at_peer_lem p ∙ rw c }

      -- the state with another stream in the peer's slot
      abbrev later : S → State S
      later t = put_slot s place (peer (with_stream q t))

      later_same : later q.stream ≡ s
      later_same = rw (← e, set-get_or s.slots place free)

      at_later : (t : S) (p : List ℕ) → step_of (later t) p ≡ cond (O.closed t) (stays (later t) (no_piece 40)) (comes (offer O t p))
      unfolding piece
      at_later t p =
          let x = peer (with_stream q t) in
          rw (
            first_set (is_peer n) s.slots place x free (ap (is_peer n) (sym e)),
            get_or-set_same s.slots place x free (taken_below s.slots place q e),
            set-set s.slots place x,
          )

      -- ---- an open stream

      module _ (c : O.closed q.stream ≡ false) where
        pub at_open : (p : List ℕ) → step_of s p ≡ comes (offer O q.stream p)
        at_open p = at_peer_lem p ∙ rw c

        open_idles : step_of s [] ≡ stays s (record { judgement = refusal 10; taken = 0 })
        open_idles = rw (at_open [], offer_none O q.stream, later_same)

        module _ (b : ℕ) where
          abbrev pushed : S
          pushed = O.push q.stream b

          at_first : (v : Verdict) → O.judge pushed ≡ v → (p : List ℕ) → step_of s (b ∷ p) ≡ comes (bump (follows v pushed (offer O pushed p)))
          at_first v j p = at_open (b ∷ p) ∙ rw (offer_step O q.stream b p, j)

          bump_comes : (o : Offer S) → comes (bump o) ≡ bumped (comes o)
          bump_comes o =
              elim o.verdict as (λ (v : Verdict). let r = with_stream q (settled O v o.stream) in
              let z = put_slot s place (peer r) in
              offered image z place r (suc o.taken) v ≡ bumped (offered image z place r o.taken v))
              [ more ↦ refl | broken a ↦ refl | whole h x ↦ refl ]

          way_more : O.judge pushed ≡ more → (p : List ℕ) → Way step_of s b p
          way_more j p =
              let one : step_of s (b ∷ []) ≡ stays (later pushed) (record { judgement = refusal 10; taken = 1 })
              = at_first more j [] ∙ ap (λ (o : Offer S). comes (bump o)) (offer_none O pushed) in
              let l : O.closed pushed ≡ false = shut pushed ∙ ap is_broken j in
              joins (ap (λ (z : Step S Taken). said z.result) one)
              (at_first more j p ∙ bump_comes (offer O pushed p)
              ∙ ap bumped (sym (ap (λ (z : Step S Taken). step_of z.state p) one ∙ at_later pushed p ∙ rw l)))

          way_broken : (a : ℕ) → O.judge pushed ≡ broken a → (p : List ℕ) → Way step_of s b p
          way_broken a j p =
              let l : O.closed pushed ≡ true = shut pushed ∙ ap is_broken j in
              let one = at_first (broken a) j [] in
              decides (at_first (broken a) j p ∙ sym one) (ap (λ (z : Step S Taken). z.result.taken) one)
              (λ k. rw one (record { answer = 40; silent = refl; refused = λ r. at_later pushed r ∙ rw l }))

          way_whole : (h : List ℕ) (x : Header) → O.judge pushed ≡ whole h x → (p : List ℕ) → Way step_of s b p
          way_whole h x j p =
              let one = at_first (whole h x) j [] in
              let r = with_stream q (O.next pushed) in
              let g = judged_goes (judged image (put_slot s place (peer r)) place r h x).judgement.answer
              (judged_proper image (put_slot s place (peer r)) place r x h) in
              decides (at_first (whole h x) j p ∙ sym one) (ap (λ (z : Step S Taken). z.result.taken) one)
              (λ k. absurd (false≢true (sym g ∙ sym (ap (λ (z : Step S Taken). is_stop z.result.judgement.answer) one) ∙ k)))

          way_open : (p : List ℕ) → Way step_of s b p
          way_open p =
              (elim (O.judge pushed) as (λ (v : Verdict). O.judge pushed ≡ v → Way step_of s b p)
              [ more ↦ λ j. way_more j p | broken a ↦ λ j. way_broken a j p | whole h x ↦ λ j. way_whole h x j p ]) refl

    idle_at : (y : Slot S) → slot_at s place ≡ y → Idle step_of s
    idle_at free e = idle_refuses (nobody_refuses e)
    idle_at (peer q) e = by_test (O.closed q.stream) (λ c. idle_refuses (closed_refuses q e c)) (λ c. idles (open_idles q e c))

    way_at : (b : ℕ) (p : List ℕ) (y : Slot S) → slot_at s place ≡ y → Way step_of s b p
    way_at b p free e = refuses (nobody_refuses e)
    way_at b p (peer q) e = by_test (O.closed q.stream) (λ c. refuses (closed_refuses q e c)) (λ c. way_open q e c b p)

  pub piece_laws : Laws step_of
  piece_laws = record { idle = λ s. idle_at s (slot_at s (place s)) refl; way = λ s b p. way_at s b p (slot_at s (place s)) refl }
