-- In good memory the bytes of each slot are those of the slot that is read off them, and counts are what they say.
use mathlib.Core.Bool.{true}
use mathlib.Core.List.{List, [], ◌∷◌}
use mathlib.Core.Path.{◌≡◌, sym, ap, ◌∙◌}
use Prim.Native.Nat.{ℕ, zero, suc, ◌+◌, ◌≤◌, ◌<◌, min}
use native.Mathlib.Omega.{arith}
use lib.ListN.{length, get_or, take, drop, length-take}
use Rattle.wire.specs.Words.{word_at}
use Rattle.wire.specs.declared.Order.TheVariants.{Little}
use Rattle.wire.proofs.Texts.{both, same_eq}
use Rattle.tables.specs.Tables.{parts}
use Rattle.tables.proofs.Words.{word_part}
use Rattle.tables.proofs.Cells.{parts_length}
use Rattle.rules.specs.State.{free, peer}
use Rattle.memory.specs.Layout.{slot_length, slot_start, gids_at, pending_at, names_at, head_at, first_byte, head_room, slots_at, name_room}
use Rattle.memory.specs.Encoding.{slot_bytes, slot_of, state_of}
use Rattle.memory.specs.Good.{plain_slots}
use Rattle.memory.specs.Sound.{Held}
use Rattle.memory.specs.Places.{number_at, peer_from}
use Rattle.memory.proofs.Reading.{slot_part, slot_at, slot_free, slot_peer, gids_many, pending_many, names_many}
use Rattle.memory.proofs.Fields.{gids_in, pending_in_lem, names_in_lem, table_counted}
use Rattle.memory.proofs.Slots.{head_count}
use Rattle.memory.proofs.Good.{good_plain}

plain_at_lem : (l : List (List ℕ)) (i : ℕ) → plain_slots l ≡ true → i < length l → slot_bytes (slot_of (get_or l i [])) ≡ get_or l i []
unfolding plain_slots
plain_at_lem [] i e h = absurd (omega arith)
plain_at_lem (b ∷ l) zero e h = same_eq (slot_bytes (slot_of b)) b (search both)
plain_at_lem (b ∷ l) (suc i) e h = plain_at_lem l i (search both) (omega arith)

pub held_part : (m : List ℕ) (i : ℕ) → Held m → i < 16 → take slot_length (drop (slot_start i) m) ≡ slot_bytes (get_or (state_of m).slots i free)
held_part m i g h =
    let p = parts slot_length 16 (drop slots_at m) in
    let l : i < length p = rw (parts_length slot_length 16 (drop slots_at m)) h in
    let e : slot_bytes (slot_of (get_or p i [])) ≡ get_or p i [] = plain_at_lem p i (good_plain m g.held) l in
    sym (rw (slot_part m i h) at e) ∙ ap slot_bytes (sym (slot_at m i h))

pub held_free : (m : List ℕ) (i : ℕ) → Held m → i < 16 → number_at m i ≡ 0 → take slot_length (drop (slot_start i) m) ≡ slot_bytes free
held_free m i g h e = held_part m i g h ∙ ap slot_bytes (slot_free m i h e)

pub held_peer : (m : List ℕ) (i : ℕ) → Held m → i < 16 → (number_at m i ≡ 0 → ⊥)
    → take slot_length (drop (slot_start i) m) ≡ slot_bytes (peer (peer_from m (slot_start i)))
held_peer m i g h e = held_part m i g h ∙ ap slot_bytes (slot_peer m i h e)

-- ---- counts of the peer whose slot begins at a

pub record Counted (m : List ℕ) (a : ℕ) : Type 0 where
  pub gids : length (peer_from m a).gids ≡ word_at Little m (a + gids_at)
  pub calls : length (peer_from m a).pending ≡ word_at Little m (a + pending_at)
  pub names : length (peer_from m a).names ≡ word_at Little m (a + names_at)
  pub head : length (peer_from m a).stream.head ≡ word_at Little m (a + head_at)
  pub few_names : word_at Little m (a + names_at) ≤ name_room
  pub small : word_at Little m (a + head_at) ≤ head_room

pub held_counted : (m : List ℕ) (i : ℕ) → Held m → i < 16 → (number_at m i ≡ 0 → ⊥) → Counted m (slot_start i)
held_counted m i g h e =
    let a = slot_start i in
    let p = peer_from m a in
    let count : (k : ℕ) → k + 4 ≤ slot_length → word_at Little m (a + k) ≡ word_at Little (slot_bytes (peer p)) k
    = λ k l. sym (word_part m a slot_length k l) ∙ ap (λ (z : List ℕ). word_at Little z k) (held_peer m i g h e) in
    let ln : length p.names ≡ min (word_at Little m (a + names_at)) name_room = names_many m a in
    let lh : length p.stream.head ≤ head_room = omega (arith, length-take (min (word_at Little m (a + head_at)) head_room) (drop (a + first_byte) m)) in
    let en : word_at Little m (a + names_at) ≡ length p.names = count names_at (omega arith) ∙ table_counted (names_in_lem p) (omega arith) in
    let eh : word_at Little m (a + head_at) ≡ length p.stream.head = count head_at (omega arith) ∙ head_count p lh in
    record {
      gids = sym (count gids_at (omega arith) ∙ table_counted (gids_in p) (omega (arith, gids_many m a)));
      calls = sym (count pending_at (omega arith) ∙ table_counted (pending_in_lem p) (omega (arith, pending_many m a)));
      names = sym en;
      head = sym eh;
      few_names = omega arith;
      small = omega arith;
    }
