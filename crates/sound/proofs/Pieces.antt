-- What a piece answers on good memory, over any streams whose faults are 1 to 9: at most 41; and its refusals, from 30 on, leave the state as it was and show
-- nobody (rules 8.1 and 8.10).
use mathlib.Core.Path.{◌≡◌, refl}
use mathlib.Core.List.{List}
use Prim.Native.Nat.{ℕ, ◌≤◌}
use native.Mathlib.Omega.{arith}
use borrow.Author.Tests.{leb-true}
use Rattle.wire.proofs.Tests.{choice}
use Rattle.wire.proofs.Texts.{impossible}
use Rattle.stream.specs.Stream.{Verdict, more, broken, whole, Streams, offer}
use Rattle.rules.specs.State.{Slot, free, peer, Peer, State, is_peer, first_by}
use Rattle.rules.specs.Judge.{judged}
use Rattle.rules.specs.Calls.{Step, slot_at, no_piece, offered, piece_at, piece}
use Rattle.rules.specs.declared.Taken.{Taken}
use Rattle.sound.proofs.Octets.{offer_judged}
use Rattle.sound.proofs.Numbers.{judged_few, judged_proper}
use Rattle.sound.proofs.Answers.{Modest, low}

abbrev pub bare_taken : Taken → Taken
bare_taken r = no_piece r.judgement.answer

module _ {S : Type 0} (O : Streams S) (faults : (t : S) (a : ℕ) → O.judge t ≡ broken a → (1 ≤ a) × (a ≤ 9)) where
  pub offer_faults : (t : S) (p : List ℕ) (a : ℕ) → (offer O t p).verdict ≡ broken a → (1 ≤ a) × (a ≤ 9)
  offer_faults t p a e = faults (offer O t p).stream a (offer_judged O (broken a) (λ q. impossible cc) t p e)

  module _ (s : State S) where
    abbrev Takes : Step S Taken → Type 0
    Takes = Modest (λ r. r.judgement.answer) bare_taken s

    offered_modest : (image : List ℕ) (z : State S) (i : ℕ) (p : Peer S) (n : ℕ) (v : Verdict)
        → ((a : ℕ) → v ≡ broken a → (1 ≤ a) × (a ≤ 9)) → Takes (offered image z i p n v)
    offered_modest image z i p n more f = low (offered image z i p n more) (omega arith)
    offered_modest image z i p n (broken a) f = low (offered image z i p n (broken a)) (omega (arith, (f a refl).1))
    offered_modest image z i p n (whole h x) f =
        low (offered image z i p n (whole h x)) (omega (arith, judged_few (judged image z i p h x).judgement.answer (judged_proper image z i p x h)))

    piece_at_lem : (image : List ℕ) (i : ℕ) (y : Slot S) (bytes : List ℕ) → Takes (piece_at O image s i y bytes)
    piece_at_lem image i free bytes = search leb-true
    piece_at_lem image i (peer p) bytes = search (choice Takes, offered_modest, offer_faults p.stream bytes, leb-true)

    pub piece_modest : (image : List ℕ) (n : ℕ) (bytes : List ℕ) → Modest (λ (r : Taken). r.judgement.answer) bare_taken s (piece O image s n bytes)
    unfolding piece
    piece_modest image n bytes = let i = first_by (is_peer n) s.slots in piece_at_lem image i (slot_at s i) bytes
