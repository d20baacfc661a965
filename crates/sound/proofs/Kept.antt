-- Good slots by place: each good by itself, a number and a name in one slot at most, and each callee in some slot.
use mathlib.Core.Path.{◌≡◌, refl, subst}
use mathlib.Core.Bool.{true, false, false≢true}
use mathlib.Core.List.{List, [], ◌∷◌}
use Prim.Native.Nat.{ℕ, zero, suc, ◌≤◌, ◌<◌}
use lib.ListN.{length, get_or}
use borrow.Author.Tests.{eq-eqb, eqb-true}
use Rattle.wire.specs.Lists.{every}
use Rattle.wire.proofs.Texts.{both_first, both_second, both_true}
use Rattle.stream.specs.Tail.{Tail, good_tail}
use Rattle.rules.specs.State.{Peer, Slot, free, peer, State, is_peer}
use Rattle.rules.specs.Calls.{is_owner}
use Rattle.memory.specs.Good.{nobody, good_slot, good_slots}
use Rattle.memory.specs.Sound.{word32, narrow, octet, head_octets, Sound}
use Rattle.memory.proofs.Peers.{peer_good, good_peer_lem}
use Rattle.sound.proofs.Slots.{nobody_at, nobody_of, somebody_at, somebody_of, every_of, Single, single_head, single_apart, single_rest}
use Rattle.sound.proofs.Names.{ok_names, names_ok, names_apart, names_good}
use Rattle.rules.specs.Awaited.{is_waiting}
use Rattle.rules.proofs.Waits.{ok_pending}
use Rattle.sound.proofs.Pending.{narrow_pending, dated, pending_ok, pending_dated, pending_known, pending_good}

-- ---- a peer by itself

pub record Fine (last tick : ℕ) (p : Peer Tail) : Type 0 where
  pub low : 1 ≤ p.number
  pub high : p.number ≤ last
  pub few_gids : length p.gids ≤ 16
  pub few_pending : length p.pending ≤ 16
  pub few_names_lem : length p.names ≤ 4
  pub waits : ok_pending p.pending ≡ true
  pub owned : ok_names p.names ≡ true
  pub tail : good_tail p.stream ≡ true
  pub user : word32 p.uid ≡ true
  pub groups : every word32 p.gids ≡ true
  pub serials : narrow_pending p.pending ≡ true
  pub dates : dated tick p.pending ≡ true
  pub bytes : every octet p.stream.head ≡ true

abbrev pub Alone : ℕ → ℕ → Slot Tail → Type 0
Alone last tick free = Unit
Alone last tick (peer p) = Fine last tick p

-- ---- slots, whose callees are in `all`

pub record Among (all : List (Slot Tail)) (last tick : ℕ) (l : List (Slot Tail)) : Type 0 where
  pub each : (i : ℕ) → Alone last tick (get_or l i free)
  pub numbers : (n : ℕ) → Single (is_peer n) l
  pub names : (y : List ℕ) → Single (is_owner y) l
  pub callees : (i c s : ℕ) → is_waiting c s (get_or l i free) ≡ true → (j : ℕ) × (is_peer c (get_or all j free) ≡ true)

abbrev pub Kept : ℕ → ℕ → List (Slot Tail) → Type 0
Kept last tick l = Among l last tick l

-- ---- the first slot beside those after it

record Beside (all : List (Slot Tail)) (last tick : ℕ) (x : Slot Tail) (later : List (Slot Tail)) : Type 0 where
  alone : Alone last tick x
  number : (n : ℕ) → is_peer n x ≡ true → (j : ℕ) → is_peer n (get_or later j free) ≡ false
  name : (y : List ℕ) → is_owner y x ≡ true → (j : ℕ) → is_owner y (get_or later j free) ≡ false
  callee : (c s : ℕ) → is_waiting c s x ≡ true → (j : ℕ) × (is_peer c (get_or all j free) ≡ true)

slot_beside : (all : List (Slot Tail)) (last tick : ℕ) (x : Slot Tail) (later : List (Slot Tail)) → good_slot all last tick x later ≡ true → narrow x ≡ true
    → head_octets x ≡ true
    → Beside all last tick x later
unfolding narrow head_octets
slot_beside all last tick free later e w o =
    record { alone = tt; number = λ n q. absurd (false≢true q); name = λ y q. absurd (false≢true q); callee = λ c s q. absurd (false≢true q) }
slot_beside all last tick (peer p) later e w o =
    let g = peer_good all last tick p later e in
    record {
      alone = search (pending_ok all tick, pending_dated all tick, names_ok later, both_first, both_second);
      number = λ n q. nobody_at (is_peer n) refl later (subst (λ (k : ℕ). nobody (is_peer k) later ≡ true) (eqb-true p.number n q) g.alone);
      name = λ y q. nobody_at (is_owner y) refl later (names_apart later p.names g.names y q);
      callee = λ c s q. somebody_at (is_peer c) all (pending_known all tick p.pending g.pending c s q);
    }

slot_good : (all : List (Slot Tail)) (last tick : ℕ) (x : Slot Tail) (later : List (Slot Tail)) → Beside all last tick x later → good_slot all last tick x later ≡ true
slot_good all last tick free later b = refl
slot_good all last tick (peer p) later b =
    let number = nobody_of (is_peer p.number) later (b.number p.number (eq-eqb p.number p.number refl)) in
    let pending = pending_good all tick p.pending b.alone.waits b.alone.dates
    (λ c s q. let r = b.callee c s q in somebody_of (is_peer c) refl all r.0 r.1) in
    let names = names_good later p.names b.alone.owned (λ y q. nobody_of (is_owner y) later (b.name y q)) in
    good_peer_lem all last tick p later (search)

slot_small : (last tick : ℕ) (x : Slot Tail) → Alone last tick x → (narrow x ≡ true) × (head_octets x ≡ true)
unfolding narrow head_octets
slot_small last tick free a = (refl, refl)
slot_small last tick (peer p) a = (rw (a.user, a.groups) a.serials, a.bytes)

-- ---- all of them

among_cons : (all : List (Slot Tail)) (last tick : ℕ) (x : Slot Tail) (l : List (Slot Tail)) → Beside all last tick x l → Among all last tick l → Among all last tick (x ∷ l)
among_cons all last tick x l b a =
    record {
      each = elim [ zero ↦ b.alone | suc i ↦ a.each i ];
      numbers = λ n. single_head (is_peer n) x l (b.number n) (a.numbers n);
      names = λ y. single_head (is_owner y) x l (b.name y) (a.names y);
      callees = elim [ zero ↦ b.callee | suc i ↦ a.callees i ];
    }

among_of : (all : List (Slot Tail)) (last tick : ℕ) (l : List (Slot Tail)) → good_slots all last tick l ≡ true → every narrow l ≡ true → every head_octets l ≡ true
    → Among all last tick l
unfolding good_slots
among_of all last tick [] e w o =
    record { each = λ i. tt; numbers = λ n i j q. absurd (false≢true q); names = λ y i j q. absurd (false≢true q); callees = λ i c s q. absurd (false≢true q) }
among_of all last tick (x ∷ l) e w o =
    among_cons all last tick x l
    (slot_beside all last tick x l (both_first (good_slot all last tick x l) (good_slots all last tick l) e) (both_first (narrow x) (every narrow l) w)
    (both_first (head_octets x) (every head_octets l) o))
    (among_of all last tick l (both_second (good_slot all last tick x l) (good_slots all last tick l) e) (both_second (narrow x) (every narrow l) w)
    (both_second (head_octets x) (every head_octets l) o))

among_rest : (all : List (Slot Tail)) (last tick : ℕ) (x : Slot Tail) (l : List (Slot Tail)) → Among all last tick (x ∷ l) → Among all last tick l
among_rest all last tick x l a =
    record {
      each = λ i. a.each (suc i);
      numbers = λ n. single_rest (is_peer n) x l (a.numbers n);
      names = λ y. single_rest (is_owner y) x l (a.names y);
      callees = λ i. a.callees (suc i);
    }

among_beside : (all : List (Slot Tail)) (last tick : ℕ) (x : Slot Tail) (l : List (Slot Tail)) → Among all last tick (x ∷ l) → Beside all last tick x l
among_beside all last tick x l a =
    record {
      alone = a.each 0;
      number = λ n. single_apart (is_peer n) x l (a.numbers n);
      name = λ y. single_apart (is_owner y) x l (a.names y);
      callee = a.callees 0;
    }

among_good : (all : List (Slot Tail)) (last tick : ℕ) (l : List (Slot Tail)) → Among all last tick l → good_slots all last tick l ≡ true
unfolding good_slots
among_good all last tick [] a = refl
among_good all last tick (x ∷ l) a =
    both_true (good_slot all last tick x l) (good_slots all last tick l) (slot_good all last tick x l (among_beside all last tick x l a))
    (among_good all last tick l (among_rest all last tick x l a))

-- ---- a sound state is one whose slots are kept

pub sound_kept : {s : State Tail} → Sound s → Kept s.last s.tick s.slots
sound_kept {s} g = among_of s.slots s.last s.tick s.slots g.slots g.narrows g.octets

pub kept_sound : (s : State Tail) → length s.slots ≡ 16 → s.last < 4294967296 → s.tick < 18446744073709551616 → Kept s.last s.tick s.slots → Sound s
kept_sound s l h c k =
    record {
      sixteen = l;
      fits = h;
      ticks = c;
      slots = among_good s.slots s.last s.tick s.slots k;
      narrows = every_of narrow s.slots (λ j. (slot_small s.last s.tick (get_or s.slots j free) (k.each j)).0);
      octets = every_of head_octets s.slots (λ j. (slot_small s.last s.tick (get_or s.slots j free) (k.each j)).1);
    }
