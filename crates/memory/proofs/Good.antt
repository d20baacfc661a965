-- Good memory: it is the bytes of the state that is read off it, and that state is sound.
use mathlib.Core.Bool.{Bool, true, false, cond}
use mathlib.Core.List.{List, [], ◌∷◌, ◌++◌, map}
use mathlib.Core.Path.{◌≡◌, refl, sym, ap, ap₂, ◌∙◌}
use Prim.Native.Nat.{ℕ, zero, suc, ◌+◌, ◌*◌, ◌≤◌, min, ◌<◌}
use native.Mathlib.Omega.{arith}
use lib.Dec.{eqb}
use lib.ListN.{length, take, drop, set, length-drop, take-append-drop}
use lib.Seq.{take-add}
use borrow.Author.Tests.{eqb-true, lt-ltb}
use Rattle.wire.specs.Lists.{every}
use Rattle.wire.specs.Bytes.{Below}
use Rattle.wire.specs.Words.{word_at, word_bytes}
use Rattle.wire.specs.declared.Order.TheVariants.{Little}
use Rattle.wire.proofs.Texts.{both, both_true, same_eq}
use Rattle.wire.proofs.Words.{word_bytes_lem}
use Rattle.wire.proofs.Longs.{long_below, long_bytes_lem}
use Rattle.tables.specs.Tables.{cells, parts, table_of}
use Rattle.tables.proofs.Words.{bytes_take, bytes_drop, word_fits}
use Rattle.stream.specs.Tail.{Tail}
use Rattle.rules.specs.State.{Pending, Slot, free, peer, put_slot}
use Rattle.memory.specs.Layout.{memory_length, slot_length, slot_start, gid_width, gid_room, pending_at}
use Rattle.memory.specs.Layout.{call_width, call_room, uid_at, gids_at, tick_at, slots_at, serial_offset}
use Rattle.memory.specs.Encoding.{slot_bytes, clock_bytes, memory_of, word_of, pending_of, peer_of, slot_of, state_of}
use Rattle.memory.specs.Good.{good_slots, plain_slots, good}
use Rattle.memory.specs.Sound.{head_octets, word32, narrow, Sound, Held}
use Rattle.memory.proofs.Octets.{slot_octets}
use Rattle.memory.proofs.Frame.{put_memory, put_last}
use Rattle.memory.proofs.Reading.{sixteen}

-- ---- the parts of the test

pub good_sized : (m : List ℕ) → good m ≡ true → length m ≡ memory_length
unfolding good
good_sized m e = eqb-true (length m) memory_length (search both)

pub good_slots_lem : (m : List ℕ) → good m ≡ true → good_slots (state_of m).slots (state_of m).last (state_of m).tick (state_of m).slots ≡ true
unfolding good
good_slots_lem m e = search both

pub good_plain : (m : List ℕ) → good m ≡ true → plain_slots (parts slot_length 16 (drop slots_at m)) ≡ true
unfolding good
good_plain m e = search both

pub held_of : (m : List ℕ) → good m ≡ true → Held m
held_of m e = record { sized = good_sized m e; held = e }

-- ---- good bytes are those of the state that is read off them

plain_slots_lem : (n : ℕ) (d : List ℕ) → length d ≡ slot_length * n → plain_slots (parts slot_length n d) ≡ true
    → cells slot_bytes (map slot_of (parts slot_length n d)) ≡ d
unfolding parts plain_slots cells
plain_slots_lem zero [] l e = refl
plain_slots_lem zero (x ∷ d) l e = absurd (omega arith)
plain_slots_lem (suc n) d l e =
    let b = take slot_length d in
    ap₂ ◌++◌ (same_eq (slot_bytes (slot_of b)) b (search both)) (plain_slots_lem n (drop slot_length d) (length-drop slot_length d ∙ omega arith) (search both))
    ∙ take-append-drop slot_length d

-- the last number and the last tick stand in the first bytes
pub clock_plain : (m : List ℕ) → Below 256 m → slots_at ≤ length m → clock_bytes (state_of m) ≡ take slots_at m
unfolding clock_bytes state_of
clock_plain m b h = ap₂ ◌++◌ (word_bytes_lem m 0 b (omega arith)) (long_bytes_lem m tick_at b (omega arith)) ∙ sym (take-add tick_at 8 m)

pub good_is : (m : List ℕ) → Below 256 m → good m ≡ true → memory_of (state_of m) ≡ m
unfolding memory_of state_of
good_is m b e =
    let l : length m ≡ memory_length = good_sized m e in
    ap₂ ◌++◌ (clock_plain m b (omega arith)) (plain_slots_lem 16 (drop slots_at m) (length-drop slots_at m ∙ omega arith) (good_plain m e))
    ∙ take-append-drop slots_at m

-- ---- the numbers read off bytes are of 32 bits

every_parts : {A : Type 0} (t : A → Bool) (dec : List ℕ → A) (w : ℕ) → ((b : List ℕ) → Below 256 b → t (dec b) ≡ true)
    → (n : ℕ) (m : List ℕ) → Below 256 m → every t (map dec (parts w n m)) ≡ true
unfolding parts
every_parts t dec w f zero m b = refl
every_parts t dec w f (suc n) m b =
    both_true (t (dec (take w m))) (every t (map dec (parts w n (drop w m)))) (f (take w m) (bytes_take w m b))
    (every_parts t dec w f n (drop w m) (bytes_drop w m b))

every_table : {A : Type 0} (t : A → Bool) (dec : List ℕ → A) (w k : ℕ) → ((b : List ℕ) → Below 256 b → t (dec b) ≡ true)
    → (m : List ℕ) → Below 256 m → every t (table_of w k dec m) ≡ true
unfolding table_of
every_table t dec w k f m b = every_parts t dec w f (min (word_at Little m 0) k) (drop 4 m) (bytes_drop 4 m b)

word_narrow : (a : ℕ) (b : List ℕ) → Below 256 b → word32 (word_at Little b a) ≡ true
word_narrow a b f = lt-ltb (word_at Little b a) 4294967296 (word_fits b a f)

pub slot_narrow : (b : List ℕ) → Below 256 b → narrow (slot_of b) ≡ true
unfolding slot_of peer_of narrow
slot_narrow b f = go (eqb (word_at Little b 0) 0)
  where
    go : (z : Bool) → narrow (cond z free (peer (peer_of b))) ≡ true
    go true = refl
    go false =
        let u = word_narrow uid_at b f in
        let v = every_table word32 word_of gid_width gid_room (word_narrow 0) (drop gids_at b) (bytes_drop gids_at b f) in
        let x = every_table (λ (w : Pending). word32 w.serial) pending_of call_width call_room (word_narrow serial_offset) (drop pending_at b)
        (bytes_drop pending_at b f) in
        rw (u, v, x)

pub good_sound : (m : List ℕ) → Below 256 m → good m ≡ true → Sound (state_of m)
unfolding state_of
good_sound m b e =
    record {
      sixteen = sixteen m;
      fits = word_fits m 0 b;
      ticks = long_below m tick_at b;
      slots = good_slots_lem m e;
      narrows = every_parts narrow slot_of slot_length slot_narrow 16 (drop slots_at m) (bytes_drop slots_at m b);
      octets = every_parts head_octets slot_of slot_length slot_octets 16 (drop slots_at m) (bytes_drop slots_at m b);
    }

-- ---- a slot and the last number put in good memory

module _ (m : List ℕ) (b : Below 256 m) (g : good m ≡ true) where
  pub framed : (i : ℕ) (x : Slot Tail) → i < 16
      → memory_of (put_slot (state_of m) i x) ≡ take (slot_start i) m ++ (slot_bytes x ++ drop (slot_start i + slot_length) m)
  framed i x h = rw (good_is m b g) at (put_memory (state_of m) i x (rw (sixteen m) h))

  pub seated : (n i : ℕ) (x : Slot Tail) → i < 16
      → memory_of (record { last = n; tick = (state_of m).tick; slots = set (state_of m).slots i x })
      ≡ word_bytes n ++ drop tick_at (take (slot_start i) m ++ (slot_bytes x ++ drop (slot_start i + slot_length) m))
  seated n i x h = put_last (put_slot (state_of m) i x) n ∙ ap (λ (y : List ℕ). word_bytes n ++ drop tick_at y) (framed i x h)
