-- A sound state is read back from its bytes, and these are good memory: memory is good exactly where it is the bytes of a sound state.
use mathlib.Core.Bool.{true}
use mathlib.Core.Logic.{◌↔◌}
use mathlib.Core.List.{List, [], ◌∷◌, ◌++◌, map, append-nil, append_assoc}
use mathlib.Core.Path.{◌≡◌, refl, sym, ap, ap₂, ◌∙◌}
use Prim.Native.Nat.{ℕ, ◌<◌}
use native.Mathlib.Omega.{arith}
use lib.ListN.{length, drop}
use lib.Seq.{drop_at}
use borrow.Author.Tests.{eq-eqb, ltb-true}
use Rattle.wire.specs.Bytes.{Below}
use Rattle.wire.specs.Lists.{every}
use Rattle.wire.specs.Words.{word_at, long_at, word_bytes, long_bytes}
use Rattle.wire.specs.declared.Order.TheVariants.{Little}
use Rattle.wire.proofs.Texts.{both, same_refl}
use Rattle.wire.proofs.Words.{word_length, word_again}
use Rattle.wire.proofs.Longs.{long_front, long_again}
use Rattle.tables.specs.Tables.{cells, parts}
use Rattle.tables.proofs.Cells.{cells_parts}
use Rattle.stream.proofs.Good.{tail_fits}
use Rattle.stream.specs.Tail.{Tail}
use Rattle.rules.specs.State.{Peer, Slot, free, peer, State}
use Rattle.memory.specs.Layout.{memory_length, slot_length, tick_at, slots_at}
use Rattle.memory.specs.Encoding.{slot_bytes, clock_bytes, memory_of, slot_of, state_of}
use Rattle.memory.specs.Good.{good_slot, good_slots, plain_slots, good}
use Rattle.memory.specs.Sound.{narrow, Sound}
use Rattle.memory.proofs.Frame.{slot_length_lem, memory_length_lem, memory_slots}
use Rattle.memory.proofs.Peers.{GoodPeer, peer_good}
use Rattle.memory.proofs.Again.{words_back, names_back_lem, pendings_back}
use Rattle.memory.proofs.Slots.{Fits, slot_back, free_back}
use Rattle.memory.proofs.Good.{good_is, good_sound}

-- the parts of the bytes of slots are the bytes of each
slot_parts : (slots : List (Slot Tail)) → length slots ≡ 16 → parts slot_length 16 (cells slot_bytes slots) ≡ map slot_bytes slots
slot_parts slots e =
    rw (append-nil (cells slot_bytes slots), e) at (cells_parts slot_length slot_bytes slot_length_lem slots [])

last_back : (s : State Tail) → s.last < 4294967296 → word_at Little (memory_of s) 0 ≡ s.last
unfolding memory_of clock_bytes
last_back s h = rw (append_assoc (word_bytes s.last)) (word_again s.last (long_bytes s.tick ++ cells slot_bytes s.slots) h)

tick_back : (s : State Tail) → s.tick < 18446744073709551616 → long_at (memory_of s) tick_at ≡ s.tick
unfolding memory_of clock_bytes
tick_back s h =
    let t = long_bytes s.tick ++ cells slot_bytes s.slots in
    sym (long_front (memory_of s) tick_at)
    ∙ ap (λ (z : List ℕ). long_at z 0) (ap (drop tick_at) (append_assoc (word_bytes s.last) (long_bytes s.tick) (cells slot_bytes s.slots))
    ∙ drop_at (word_bytes s.last) t tick_at (word_length s.last))
    ∙ long_again s.tick (cells slot_bytes s.slots) h

module _ (all : List (Slot Tail)) (last tick : ℕ) (g : good_slots all last tick all ≡ true) (l : last < 4294967296)
    (k : tick < 18446744073709551616) where
  peer_fits : (p : Peer Tail) (later : List (Slot Tail)) → GoodPeer all last tick p later → narrow (peer p) ≡ true → Fits p
  unfolding narrow
  peer_fits p later q n =
      let taken : p.stream.taken < 134217728 = (tail_fits p.stream q.tail).0 in
      record {
        number = omega arith;
        uid = ltb-true p.uid 4294967296 (search both);
        gids = q.gids;
        gids_back = words_back p.gids (search both);
        calls = q.calls;
        calls_back = pendings_back all last tick p.pending g l k q.pending (search both);
        names = q.few;
        names_back = names_back_lem p.names later q.names;
        taken = omega arith;
        head = (tail_fits p.stream q.tail).1;
      }

  pub slot_again : (x : Slot Tail) (later : List (Slot Tail)) → good_slot all last tick x later ≡ true → narrow x ≡ true → slot_of (slot_bytes x) ≡ x
  slot_again free later e n = free_back
  slot_again (peer p) later e n =
      let q = peer_good all last tick p later e in
      slot_back p q.some (peer_fits p later q n)

  slots_again : (slots : List (Slot Tail)) → good_slots all last tick slots ≡ true → every narrow slots ≡ true → map slot_of (map slot_bytes slots) ≡ slots
  unfolding good_slots
  slots_again [] e n = refl
  slots_again (x ∷ later) e n = ap₂ ◌∷◌ (slot_again x later (search both) (search both)) (slots_again later (search both) (search both))

  plain_slots_lem : (slots : List (Slot Tail)) → good_slots all last tick slots ≡ true → every narrow slots ≡ true → plain_slots (map slot_bytes slots) ≡ true
  unfolding good_slots plain_slots
  plain_slots_lem [] e n = refl
  plain_slots_lem (x ∷ later) e n =
      rw (slot_again x later (search both) (search both), same_refl (slot_bytes x)) (plain_slots_lem later (search both) (search both))

-- a sound state is read off its bytes
pub state_again : (s : State Tail) → Sound s → state_of (memory_of s) ≡ s
unfolding state_of
state_again s g =
    let a : word_at Little (memory_of s) 0 ≡ s.last = last_back s g.fits in
    let b : map slot_of (parts slot_length 16 (drop slots_at (memory_of s))) ≡ s.slots
    = rw (memory_slots s, slot_parts s.slots g.sixteen) (slots_again s.slots s.last s.tick g.slots g.fits g.ticks s.slots g.slots g.narrows) in
    let c : long_at (memory_of s) tick_at ≡ s.tick = tick_back s g.ticks in
    λ j. record { last = a j; tick = c j; slots = b j }

-- and its bytes are good
pub good_memory : (s : State Tail) → Sound s → good (memory_of s) ≡ true
unfolding good
good_memory s g =
    let p = plain_slots_lem s.slots s.last s.tick g.slots g.fits g.ticks s.slots g.slots g.narrows in
    rw (
      eq-eqb (length (memory_of s)) memory_length (memory_length_lem s g.sixteen),
      state_again s g,
      g.slots,
      memory_slots s,
      slot_parts s.slots g.sixteen,
      p,
    )

-- memory is good exactly where it is the bytes of a sound state
pub good_iff : (m : List ℕ) → Below 256 m → (good m ≡ true) ↔ ((s : State Tail) × Sound s × (memory_of s ≡ m))
good_iff m b = (λ e. (state_of m, good_sound m b e, good_is m b e), λ x. rw (← x.2) (good_memory x.0 x.1))
