-- In good memory no pending call is newer than the last tick; memory in which one is, is not good, which is 51 (rules 10.3 and 10.6).
use mathlib.Core.Bool.{Bool, true, false, ◌&&◌}
use mathlib.Core.List.{List, [], ◌∷◌}
use mathlib.Core.Path.{◌≡◌}
use Prim.Native.Nat.{ℕ, zero, suc, ◌≤◌, ◌<◌}
use native.Mathlib.Omega.{arith}
use lib.Dec.{leb}
use lib.ListN.{length, get_or, drop}
use borrow.Author.Tests.{leb-true}
use Rattle.wire.specs.Lists.{any, every}
use Rattle.wire.proofs.Texts.{both, both_first, both_second}
use Rattle.wire.proofs.Tests.{refute}
use Rattle.stream.specs.Tail.{Tail}
use Rattle.rules.specs.State.{Pending, Peer, Slot, free, peer, is_peer}
use Rattle.rules.specs.Pending.{same_call}
use Rattle.memory.specs.Encoding.{state_of}
use Rattle.memory.specs.Good.{good_pending, good_slot, good}
use Rattle.memory.proofs.Octets.{distinct_every}
use Rattle.memory.proofs.Peers.{peer_good}
use Rattle.memory.proofs.Good.{good_slots_lem}
use Rattle.memory.proofs.Counts.{slots_at_lem}

every_at : {A : Type 0} (t : A → Bool) (l : List A) (j : ℕ) (d : A) → every t l ≡ true → j < length l → t (get_or l j d) ≡ true
every_at t [] j d e h = absurd (omega arith)
every_at t (x ∷ l) zero d e h = both_first (t x) (every t l) e
every_at t (x ∷ l) (suc j) d e h = every_at t l j d (both_second (t x) (every t l) e) (omega arith)

pending_dated : (all : List (Slot Tail)) (tick : ℕ) (ws : List Pending) (j : ℕ) (d : Pending) → good_pending all tick ws ≡ true → j < length ws
    → (get_or ws j d).tick ≤ tick
unfolding good_pending
pending_dated all tick ws j d e h =
    let t : Pending → Bool = λ w. any (is_peer w.callee) all && leb 1 w.serial && leb w.tick tick in
    let w = get_or ws j d in
    leb-true w.tick tick
    (both_second (any (is_peer w.callee) all && leb 1 w.serial) (leb w.tick tick) (every_at t ws j d (distinct_every t same_call ws e) h))

module _ (m : List ℕ) (i : ℕ) (p : Peer Tail) (e : get_or (state_of m).slots i free ≡ peer p) (j : ℕ) (d : Pending) (h : j < length p.pending) where
  -- pending call j of slot i is not newer than the last tick
  pub dated : good m ≡ true → (get_or p.pending j d).tick ≤ (state_of m).tick
  dated g =
      let all = (state_of m).slots in
      let q : good_slot all (state_of m).last (state_of m).tick (get_or all i free) (drop (suc i) all) ≡ true
      = slots_at_lem all (state_of m).last (state_of m).tick all i (good_slots_lem m g) in
      pending_dated all (state_of m).tick p.pending j d (peer_good all (state_of m).last (state_of m).tick p (drop (suc i) all) (rw e at q)).pending h

  -- a newer record is not good (rule 10.3)
  pub newer_record : (state_of m).tick < (get_or p.pending j d).tick → good m ≡ false
  newer_record n = refute (good m) (λ g. omega (arith, dated g, n))
