-- Bytes written in memory are read back as a slot put; a loop that changes each slot in turn.
use mathlib.Core.List.{List, [], ◌∷◌, ◌++◌, map, append_assoc}
use mathlib.Core.Path.{◌≡◌, refl, sym, ap, ap₂, ◌∙◌}
use Prim.Native.Nat.{ℕ, zero, suc, ◌+◌, ◌*◌, ◌≤◌, ◌<◌}
use native.Mathlib.Omega.{arith}
use lib.ListN.{length, take, drop, set, length-drop, take-append-drop}
use lib.Seq.{take_at, drop_at, drop-drop, take-add, length-take-le}
use Rattle.wire.specs.Bytes.{Below}
use Rattle.wire.specs.Words.{word_at, long_at}
use Rattle.wire.specs.declared.Order.TheVariants.{Little}
use Rattle.wire.proofs.Longs.{long_take}
use Rattle.tables.specs.Tables.{cells, parts}
use Rattle.tables.proofs.Words.{word_take}
use Rattle.tables.proofs.Cells.{parts_put, map_set}
use Rattle.tables.proofs.Written.{put_sized}
use Rattle.tables.proofs.Sweep.{sweep, swept, sweep_begins, sweep_step, sweep_ends}
use Rattle.stream.specs.Tail.{Tail}
use Rattle.rules.specs.State.{Slot, free, State, put_slot}
use Rattle.memory.specs.Layout.{memory_length, slot_length, slot_start, tick_at, slots_at}
use Rattle.memory.specs.Encoding.{slot_bytes, clock_bytes, memory_of, slot_of, state_of}
use Rattle.memory.specs.Places.{put_at, changed, mapped}
use Rattle.memory.proofs.Frame.{slot_length_lem}
use Rattle.memory.proofs.Slots.{free_back}
use Rattle.memory.proofs.Good.{clock_plain}

-- ---- a slot's bytes put are read back

-- what stands before the slots, and the slots with part i put
put_split : (m y : List ℕ) (i : ℕ)
    → put_at m i y ≡ take slots_at m ++ (take (slot_length * i) (drop slots_at m) ++ (y ++ drop (slot_length * i + slot_length) (drop slots_at m)))
put_split m y i =
    let e : slot_start i + slot_length ≡ slots_at + (slot_length * i + slot_length) = omega arith in
    rw (e, take-add slots_at (slot_length * i) m, drop-drop (slot_length * i + slot_length) slots_at m)
    (append_assoc (take slots_at m) (take (slot_length * i) (drop slots_at m)) (y ++ drop (slots_at + (slot_length * i + slot_length)) m))

pub put_length : (m y : List ℕ) (i : ℕ) → i < 16 → length m ≡ memory_length → length y ≡ slot_length → length (put_at m i y) ≡ memory_length
put_length m y i h l k = put_sized m y (slot_start i) slot_length (omega arith) k ∙ l

-- what stands before the slots stays
put_front : (m y : List ℕ) (i : ℕ) → slots_at ≤ length m → take slots_at (put_at m i y) ≡ take slots_at m
put_front m y i h =
    let z = take (slot_length * i) (drop slots_at m) ++ (y ++ drop (slot_length * i + slot_length) (drop slots_at m)) in
    ap (take slots_at) (put_split m y i) ∙ take_at (take slots_at m) z slots_at (length-take-le slots_at m h)

pub put_last_same : (m y : List ℕ) (i : ℕ) → slots_at ≤ length m → word_at Little (put_at m i y) 0 ≡ word_at Little m 0
put_last_same m y i h =
    sym (word_take (put_at m i y) slots_at 0 (omega arith))
    ∙ ap (λ (b : List ℕ). word_at Little b 0) (put_front m y i h)
    ∙ word_take m slots_at 0 (omega arith)

pub put_tick_same : (m y : List ℕ) (i : ℕ) → slots_at ≤ length m → long_at (put_at m i y) tick_at ≡ long_at m tick_at
put_tick_same m y i h =
    sym (long_take slots_at (put_at m i y) tick_at (omega arith))
    ∙ ap (λ (b : List ℕ). long_at b tick_at) (put_front m y i h)
    ∙ long_take slots_at m tick_at (omega arith)

pub put_again : (m y : List ℕ) (i : ℕ) → i < 16 → length m ≡ memory_length → length y ≡ slot_length → state_of (put_at m i y) ≡ put_slot (state_of m) i (slot_of y)
unfolding state_of
put_again m y i h l k =
    let d = drop slots_at m in
    let z = take (slot_length * i) d ++ (y ++ drop (slot_length * i + slot_length) d) in
    let a : word_at Little (put_at m i y) 0 ≡ word_at Little m 0 = put_last_same m y i (omega arith) in
    let b : drop slots_at (put_at m i y) ≡ z = ap (drop slots_at) (put_split m y i)
    ∙ drop_at (take slots_at m) z slots_at (length-take-le slots_at m (omega arith)) in
    let c : map slot_of (parts slot_length 16 (drop slots_at (put_at m i y))) ≡ set (map slot_of (parts slot_length 16 d)) i (slot_of y)
    = rw (b, parts_put slot_length 16 d y i h k (omega (arith, length-drop slots_at m))) (map_set slot_of (parts slot_length 16 d) i y) in
    let e : long_at (put_at m i y) tick_at ≡ long_at m tick_at = put_tick_same m y i (omega arith) in
    λ j. record { last = a j; tick = e j; slots = c j }

-- ---- each slot changed in turn

cells_sweep : (f : Slot Tail → Slot Tail) (n : ℕ) (d : List ℕ) → length d ≡ slot_length * n
    → cells slot_bytes (map f (map slot_of (parts slot_length n d))) ≡ sweep (changed f) slot_length n d
unfolding cells parts sweep
cells_sweep f zero [] l = refl
cells_sweep f zero (x ∷ d) l = absurd (omega arith)
cells_sweep f (suc n) d l =
    ap (λ (z : List ℕ). changed f (take slot_length d) ++ z) (cells_sweep f n (drop slot_length d) (length-drop slot_length d ∙ omega arith))

-- what is to come out is what stands before slot i already, and what the rest comes to
pub record Sweeping (f : Slot Tail → Slot Tail) (m₀ m : List ℕ) (i : ℕ) : Type 0 where
  pub below : i ≤ 16
  pub sized : length m ≡ memory_length
  pub left : memory_of (mapped f (state_of m₀)) ≡ take slots_at m ++ swept (changed f) slot_length 16 i (drop slots_at m)

pub sweeping_begins : (f : Slot Tail → Slot Tail) (m : List ℕ) → Below 256 m → length m ≡ memory_length → Sweeping f m m 0
unfolding memory_of clock_bytes state_of
sweeping_begins f m b l =
    let d = drop slots_at m in
    record {
      below = omega arith;
      sized = l;
      left =
          ap₂ ◌++◌ (clock_plain m b (omega arith)) (cells_sweep f 16 d (length-drop slots_at m ∙ omega arith) ∙ sweep_begins (changed f) slot_length 16 d);
    }

pub sweeping_again : (f : Slot Tail → Slot Tail) (m₀ m u y : List ℕ) (i : ℕ) → Sweeping f m₀ m i → i < 16 → u ≡ put_at m i y
    → y ≡ changed f (take slot_length (drop (slot_start i) m)) → Sweeping f m₀ u (i + 1)
sweeping_again f m₀ m u y i g h p e =
    let d = drop slots_at m in
    let l : length m ≡ memory_length = g.sized in
    let k : length d ≡ (slot_length * 16) = length-drop slots_at m ∙ omega arith in
    let t : length (take slots_at m) ≡ slots_at = length-take-le slots_at m (omega arith) in
    let z = take (slot_length * i) d ++ (y ++ drop (slot_length * i + slot_length) d) in
    let q : u ≡ take slots_at m ++ z = p ∙ put_split m y i in
    let ly : length y ≡ slot_length = ap length e ∙ slot_length_lem (f (slot_of (take slot_length (drop (slot_start i) m)))) in
    let ey : y ≡ changed f (take slot_length (drop (slot_length * i) d)) = rw (drop-drop (slot_length * i) slots_at m) e in
    let s = sweep_step (changed f) slot_length 16 (swept (changed f) slot_length 16 i d) d y i h (omega arith) ly refl ey in
    record {
      below = omega arith;
      sized = ap length p ∙ put_length m y i h l ly;
      left = g.left ∙ rw (q, take_at (take slots_at m) z slots_at t, drop_at (take slots_at m) z slots_at t) (ap (λ (x : List ℕ). take slots_at m ++ x) s);
    }

pub sweeping_ends : (f : Slot Tail → Slot Tail) (m₀ m : List ℕ) (i : ℕ) → Sweeping f m₀ m i → 16 ≤ i → m ≡ memory_of (mapped f (state_of m₀))
sweeping_ends f m₀ m i g h =
    sym (g.left ∙ ap (λ (z : List ℕ). take slots_at m ++ z) (sweep_ends (changed f) slot_length 16 (drop slots_at m) i h) ∙ take-append-drop slots_at m)

-- a slot freed, and then each changed
pub swept_freed : (f : Slot Tail → Slot Tail) (m m₁ m₂ y : List ℕ) (i : ℕ) → i < 16 → length m ≡ memory_length → y ≡ slot_bytes free → m₁ ≡ put_at m i y
    → m₂ ≡ memory_of (mapped f (state_of m₁)) → m₂ ≡ memory_of (record { last = (state_of m).last; tick = (state_of m).tick; slots = map f (set (state_of m).slots i free) })
swept_freed f m m₁ m₂ y i h l e p q =
    let r : state_of m₁ ≡ put_slot (state_of m) i free
    = ap state_of p ∙ put_again m y i h l (ap length e ∙ slot_length_lem free) ∙ ap (put_slot (state_of m) i) (ap slot_of e ∙ free_back) in
    q ∙ ap (λ (s : State Tail). memory_of (mapped f s)) r
