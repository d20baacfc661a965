-- An offering ends, whatever the memory, the image and the piece: a call that does not end it takes at least one byte. So every stream can be offered, in any
-- parts and with any ticks between them.
use mathlib.Core.Path.{◌≡◌, refl, sym, ◌∙◌}
use mathlib.Core.Bool.{false, not, false≢true}
use mathlib.Core.List.{List, [], ◌∷◌, ◌++◌, map}
use Prim.Native.Nat.{ℕ, zero, suc, ◌<◌}
use native.Mathlib.Omega.{arith}
use lib.Dec.{eqb, ltb}
use lib.ListN.{length, drop, length-drop}
use borrow.Author.Tests.{ltb-true, not-true}
use Rattle.wire.proofs.Texts.{both_first, both_second}
use Rattle.image.specs.Good.{image_answer}
use Rattle.stream.specs.Stream.{Verdict, more, broken, whole, Streams, offer}
use Rattle.stream.specs.Tail.{tails}
use Rattle.stream.proofs.Offers.{taken_some}
use Rattle.rules.specs.State.{Slot, free, peer, Peer, State, is_peer, first_by}
use Rattle.rules.specs.Calls.{Step, slot_at, offered, piece_at, piece}
use Rattle.rules.specs.declared.Judgement.{Judgement}
use Rattle.rules.specs.declared.Taken.{Taken}
use Rattle.wire.proofs.Tests.{choice, by_test}
use Rattle.memory.specs.Encoding.{state_of}
use Rattle.memory.specs.Good.{good}
use Rattle.memory.specs.Calls.{MemoryStep, Did, piece_on, tick_on}
use Rattle.rules.specs.Places.{is_stop, goes_on}
use Rattle.book.specs.Split.{said, Offers, ends, again, OffersAll, nothing, next}
use Rattle.book.specs.Split.{Cutting, pieces, ticking, Heard, verdict, report, OffersCut, all_offered, then_tick}
use Rattle.book.proofs.Images.{image_refuses}

-- the answer ends an offering, or bytes were taken
abbrev Takes : Taken → Type 0
Takes r = is_stop r.judgement.answer ≡ false → 0 < r.taken

module _ {S : Type 0} (O : Streams S) (image : List ℕ) (s : State S) (p : List ℕ) (l : 0 < length p) where
  offered_takes : (z : State S) (i : ℕ) (q : Peer S) (n : ℕ) (v : Verdict) → 0 < n → Takes (offered image z i q n v).result
  offered_takes z i q n more k e = k
  offered_takes z i q n (broken a) k e = k
  offered_takes z i q n (whole h x) k e = k

  at_takes : (i : ℕ) (y : Slot S) → Takes (piece_at O image s i y p).result
  at_takes i free = λ e. absurd (false≢true (sym e))
  at_takes i (peer q) =
      choice (λ (z : Step S Taken). Takes z.result) (O.closed q.stream) _ _ (λ c e. absurd (false≢true (sym e)))
      (λ c. offered_takes _ i _ _ (offer O q.stream p).verdict (taken_some O q.stream p l))

  -- a piece that is not empty has a byte taken, where its stream is open (rule 9.2)
  pub piece_takes : (n : ℕ) → Takes (piece O image s n p).result
  unfolding piece
  piece_takes n = let i = first_by (is_peer n) s.slots in at_takes i (slot_at s i)

module _ (image : List ℕ) (n : ℕ) where
  call_takes : (m p : List ℕ) → 0 < length p → Takes (piece_on image m n p).result
  unfolding piece_on
  call_takes m p l =
      let P : MemoryStep Taken → Type 0 = λ z. Takes z.result in
      choice P (eqb (image_answer image) 0) _ _
      (λ a. choice P (good m) _ _ (λ b. piece_takes tails image (state_of m) p l n) (λ b e. absurd (false≢true (sym e))))
      (λ a e. absurd (false≢true (sym e ∙ (image_refuses image a).stops)))

  pub record Ended (m p : List ℕ) : Type 0 where
    pub memory : List ℕ
    pub verdicts : List Judgement
    pub offered : Offers image n memory m p verdicts

  ending : (k : ℕ) (m p : List ℕ) → length p < k → Ended m p
  ending zero m p l = absurd (omega arith)
  ending (suc k) m p l =
      let r = (piece_on image m n p).result in
      let d = (piece_on image m n p).memory in
      let did : Did (piece_on image m n p) r d = record { result = refl; memory = refl } in
      let stop = is_stop r.judgement.answer in
      by_test (goes_on r p)
      (λ e. let t = ltb-true r.taken (length p) (both_second (not stop) (ltb r.taken (length p)) e) in
      let q = call_takes m p (omega arith) (not-true stop (both_first (not stop) (ltb r.taken (length p)) e)) in
      let i = ending k d (drop r.taken p) (omega (arith, length-drop r.taken p)) in
      record { memory = i.memory; verdicts = said r ++ i.verdicts; offered = again did e i.offered })
      (λ e. record { memory = d; verdicts = said r; offered = ends did e })

  pub offering_ends : (m p : List ℕ) → Ended m p
  offering_ends m p = ending (suc (length p)) m p (omega arith)

  -- ---- any pieces, and any ticks between them

  pieces_offered : (m : List ℕ) (ps : List (List ℕ)) → (e : List ℕ) × (vs : List Judgement) × OffersAll image n m e ps vs
  pieces_offered m [] = (m, [], nothing)
  pieces_offered m (p ∷ ps) =
      let a = offering_ends m p in
      let z = pieces_offered a.memory ps in
      (z.0, a.verdicts ++ z.1, next a.offered z.2)

  -- so that what is said of all cuttings is said of something
  pub cutting_offered : (m : List ℕ) (c : Cutting) → (e : List ℕ) × (hs : List Heard) × OffersCut image n m e c hs
  cutting_offered m (pieces ps) = let a = pieces_offered m ps in (a.0, map verdict a.1, all_offered a.2)
  cutting_offered m (ticking ps now limit c) =
      let a = pieces_offered m ps in
      let t = tick_on a.0 now limit in
      let z = cutting_offered t.memory c in
      (z.0, map verdict a.1 ++ (report t.result ∷ z.1), then_tick a.2 (record { result = refl; memory = refl }) z.2)
