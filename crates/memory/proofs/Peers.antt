-- The parts of a good peer, each by itself; whose number it is.
use mathlib.Core.Logic.{◌⊎◌, inl, inr}
use mathlib.Core.Bool.{true, false≢true}
use mathlib.Core.List.{List, [], ◌∷◌}
use mathlib.Core.Path.{◌≡◌}
use Prim.Native.Nat.{ℕ, ◌≤◌}
use native.Mathlib.Omega.{arith}
use lib.Dec.{eqb}
use lib.ListN.{length}
use borrow.Author.Tests.{eqb-true, leb-true, le-leb}
use Rattle.wire.specs.Lists.{any}
use Rattle.wire.proofs.Texts.{both, both_true, either}
use Rattle.stream.specs.Tail.{Tail, good_tail}
use Rattle.rules.specs.State.{Peer, Slot, free, peer, is_peer}
use Rattle.memory.specs.Good.{nobody, good_names, good_pending, good_peer, good_slots}

pub record GoodPeer (all : List (Slot Tail)) (last tick : ℕ) (p : Peer Tail) (later : List (Slot Tail)) : Type 0 where
  pub some : 1 ≤ p.number
  pub within : p.number ≤ last
  pub alone : nobody (is_peer p.number) later ≡ true
  pub gids : length p.gids ≤ 16
  pub calls : length p.pending ≤ 16
  pub few : length p.names ≤ 4
  pub pending : good_pending all tick p.pending ≡ true
  pub names : good_names p.names later ≡ true
  pub tail : good_tail p.stream ≡ true

pub peer_good : (all : List (Slot Tail)) (last tick : ℕ) (p : Peer Tail) (later : List (Slot Tail)) → good_peer all last tick p later ≡ true → GoodPeer all last tick p later
unfolding good_peer
peer_good all last tick p later e = search (both, leb-true) depth 12

pub good_peer_lem : (all : List (Slot Tail)) (last tick : ℕ) (p : Peer Tail) (later : List (Slot Tail)) → GoodPeer all last tick p later → good_peer all last tick p later ≡ true
unfolding good_peer
good_peer_lem all last tick p later g = search (both_true, le-leb) depth 12

-- a number that one of the slots has is not above the last number
pub connected_within : (all : List (Slot Tail)) (last tick n : ℕ) (slots : List (Slot Tail)) → good_slots all last tick slots ≡ true
    → any (is_peer n) slots ≡ true → n ≤ last
unfolding good_slots
connected_within all last tick n [] g e = absurd (false≢true e)
connected_within all last tick n (free ∷ later) g e = connected_within all last tick n later g e
connected_within all last tick n (peer p ∷ later) g e =
    go (either (eqb p.number n) (any (is_peer n) later) e) (connected_within all last tick n later (search both))
  where
    go : (eqb p.number n ≡ true) ⊎ (any (is_peer n) later ≡ true) → (any (is_peer n) later ≡ true → n ≤ last) → n ≤ last
    go (inl q) f =
        let w : p.number ≤ last = (peer_good all last tick p later (search both)).within in
        omega (arith, eqb-true p.number n q)
    go (inr q) f = f q
