-- The gids of a slot, copied in front of a list of sixteen.
use mathlib.Core.Path.{◌≡◌, refl, sym, ap, ◌∙◌}
use mathlib.Core.List.{List, [], ◌∷◌, ◌++◌, append-nil}
use Prim.Native.Nat.{ℕ, ◌+◌, ◌*◌, ◌≤◌, ◌<◌, min}
use native.Mathlib.Omega.{arith}
use native.Mathlib.Numerals.{add-one}
use lib.ListN.{length, take, drop, set, length-set, drop_of_length-le}
use lib.Seq.{take-suc-set, append_snoc}
use borrow.Author.Rules.{rules}
use Rattle.wire.specs.Words.{word_at}
use Rattle.wire.specs.declared.Order.TheVariants.{Little}
use Rattle.memory.specs.Layout.{slot_start, gids_at, first_gid, gid_width, gid_room}
use Rattle.slots.specs.Slots.{peer_at}
use Rattle.memory.proofs.Reading.{gid_next, gids_many}

-- k of the gids are copied, and the rest stands in memory
pub record Gathering (m : List ℕ) (i count : ℕ) (list : List ℕ) (k : ℕ) : Type 0 where
  pub few : count ≤ gid_room
  pub sized : length list ≡ gid_room
  pub inside : k ≤ count
  pub long : length (peer_at m i).gids ≡ count
  pub left : take k list ++ drop k (peer_at m i).gids ≡ (peer_at m i).gids

pub gathering_begins : {m : List ℕ} {i count n : ℕ} {list : List ℕ} → n ≡ word_at Little m (slot_start i + gids_at) → count ≡ min n gid_room → length list ≡ gid_room
    → Gathering m i count list 0
gathering_begins {m} {i} e c l =
    record { few = omega arith; sized = l; inside = omega arith; long = gids_many m (slot_start i) ∙ rw (← e) (sym c); left = refl }

module _ {m : List ℕ} {i count : ℕ} {list : List ℕ} {k : ℕ} (g : Gathering m i count list k) where
  pub gathering_more : k < count → {x : ℕ} → x ≡ word_at Little m (slot_start i + (first_gid + gid_width * k)) → Gathering m i count (set list k x) (k + 1)
  gathering_more h {x} e =
      let s : length list ≡ gid_room = g.sized in
      let f : count ≤ gid_room = g.few in
      let r = drop (k + 1) (peer_at m i).gids in
      let u : take (k + 1) (set list k x) ≡ take k list ++ (x ∷ []) = rw add-one (take-suc-set list k x (omega arith)) in
      let o : slot_start i + first_gid + gid_width * k ≡ slot_start i + (first_gid + gid_width * k) = omega arith in
      let d : drop k (peer_at m i).gids ≡ x ∷ r = gid_next m (slot_start i) k (omega (arith, g.long)) ∙ rw (o, e) in
      record {
        few = f;
        sized = length-set list k x ∙ s;
        inside = omega arith;
        long = g.long;
        left = rw u (append_snoc (take k list) x r ∙ ap (λ (l : List ℕ). take k list ++ l) (sym d) ∙ g.left);
      }

  pub gathering_ends : count ≤ k → take count list ≡ (peer_at m i).gids
  gathering_ends h =
      let e : k ≡ count = omega arith in
      let n : drop count (peer_at m i).gids ≡ [] = drop_of_length-le (peer_at m i).gids {i = count} (omega (arith, g.long)) in
      sym (append-nil (take count list)) ∙ ap (λ (l : List ℕ). take count list ++ l) (sym n) ∙ rw e at g.left

pub ruleset gathering = (gathering_begins, gathering_more, gathering_ends, rules)
