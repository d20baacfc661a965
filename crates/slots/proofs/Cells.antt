-- The names and the pending calls of a slot, as the code reads them; and whether a name is one of them, by the place at which a search ended.
use mathlib.Core.Path.{◌≡◌, sym, ◌∙◌}
use mathlib.Core.List.{List, ◌∷◌}
use Prim.Native.Nat.{ℕ, ◌+◌, ◌-◌, ◌*◌, ◌<◌, min}
use native.Mathlib.Omega.{arith}
use native.Mathlib.Nat.{add-zero}
use native.Mathlib.Decide.{dec_lt}
use lib.Dec.{ltb}
use lib.ListN.{length, take, drop, get_or}
use lib.Seq.{get_or-take, get_or-drop, drop-drop, take-take}
use borrow.Author.Rules.{rules}
use borrow.Author.Tests.{lt-ltb, le-ltb}
use Rattle.wire.specs.Bytes.{front, same}
use Rattle.wire.specs.Words.{word_at, long_at}
use Rattle.wire.specs.declared.Order.TheVariants.{Little}
use Rattle.wire.proofs.Parts.{drop_take}
use Rattle.policy.specs.Names.{name_limit, name_of, owns, name_width}
use Rattle.rules.specs.State.{first_by}
use Rattle.rules.proofs.First.{first_any}
use Rattle.memory.specs.Layout.{slot_start, pending_at, first_callee, first_serial, first_tick, call_width, names_at, first_name, call_room, name_room}
use Rattle.memory.proofs.Reading.{name_next, pending_next, names_many, pending_many}
use Rattle.slots.specs.Slots.{peer_at, name_at}

-- the length of a name is the byte in front of its cell
pub cell_front : (m : List ℕ) (a : ℕ) → front (take name_width (drop a m)) ≡ get_or m a 0
cell_front m a = get_or-take name_width (drop a m) 0 0 (omega arith) ∙ get_or-drop a m 0 0 ∙ rw add-zero

-- the name ends inside the cell
cell_name : (m : List ℕ) (a : ℕ) → get_or m a 0 < 256 → name_of (take name_width (drop a m)) ≡ take (get_or m a 0) (drop (a + 1) m)
cell_name m a h =
    rw (cell_front m a, drop_take 1 name_limit (drop a m), drop-drop 1 a m) (take-take (get_or m a 0) name_limit (drop (a + 1) m) (omega arith))

pub names_next : (m : List ℕ) (i j : ℕ) → j < length (peer_at m i).names → get_or m (slot_start i + first_name + name_width * j) 0 < 256
    → drop j (peer_at m i).names ≡ name_at m i j ∷ drop (j + 1) (peer_at m i).names
names_next m i j h b = name_next m (slot_start i) j h ∙ rw (cell_name m (slot_start i + first_name + name_width * j) b)

-- a pending call, as the code reads it
pub calls_next : (m : List ℕ) (i j : ℕ) → j < length (peer_at m i).pending
    → drop j (peer_at m i).pending
    ≡ record {
      callee = word_at Little m (slot_start i + (first_callee + call_width * j));
      serial = word_at Little m (slot_start i + (first_serial + call_width * j));
      tick = long_at m (slot_start i + (first_tick + call_width * j));
    } ∷ drop (j + 1) (peer_at m i).pending
calls_next m i j h =
    let k : slot_start i + first_callee + call_width * j ≡ slot_start i + (first_callee + call_width * j) = omega arith in
    let o : slot_start i + first_serial + call_width * j ≡ slot_start i + (first_serial + call_width * j) = omega arith in
    let q : slot_start i + first_tick + call_width * j ≡ slot_start i + (first_tick + call_width * j) = omega arith in
    pending_next m (slot_start i) j h ∙ rw (k, o, q)

-- how many they are
pub names_counted : (m : List ℕ) (i n r : ℕ) → n ≡ word_at Little m (slot_start i + names_at) → r ≡ min n name_room → r ≡ length (peer_at m i).names
names_counted m i n r e c = c ∙ rw e (sym (names_many m (slot_start i)))

pub pending_counted : (m : List ℕ) (i n r : ℕ) → n ≡ word_at Little m (slot_start i + pending_at) → r ≡ min n call_room → r ≡ length (peer_at m i).pending
pending_counted m i n r e c = c ∙ rw e (sym (pending_many m (slot_start i)))

pub ruleset counting = (names_counted, pending_counted, rules)

-- the length of a name is the byte that the code read
pub name_byte : (m : List ℕ) (at b : ℕ) → b ≡ get_or m at 0 → b < 256 → get_or m at 0 < 256
name_byte m at b e h = omega arith

-- ---- where a search from c on ended

pub before : (a b c : ℕ) → ltb a (b - c) ≡ ltb (c + a) b
before a b c = elim (dec_lt (c + a) b) [
  | yes h ↦ lt-ltb a (b - c) (omega arith) ∙ sym (lt-ltb (c + a) b h)
  | no h ↦ le-ltb a (b - c) (omega arith) ∙ sym (le-ltb (c + a) b (omega arith))
]

pub owns_first : (name : List ℕ) (xs : List (List ℕ)) → owns xs name ≡ ltb (first_by (λ x. same x name) xs) (length xs)
unfolding owns
owns_first name xs = first_any (λ x. same x name) xs
