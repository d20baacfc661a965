-- What stands in slot i of a memory.
use Rattle.std.specs.Prelude.{Bool, ◌≡◌, List, ℕ, ◌+◌, ◌*◌, ◌<◌, length, take, drop, get_or, Option, IfSome, unwrap_or}
use Rattle.stream.specs.Tail.{Tail}
use Rattle.rules.specs.State.{Peer, first_by}
use Rattle.memory.specs.Layout.{memory_length, slot_start, first_name}
use Rattle.policy.specs.Names.{name_width}
use Rattle.memory.specs.Sound.{Held}
use Rattle.memory.specs.Places.{number_at, peer_from}

-- the peer that the bytes of slot i say
abbrev pub peer_at : List ℕ → ℕ → Peer Tail
peer_at m i = peer_from m (slot_start i)

-- name j of slot i, whose length is a byte
abbrev pub name_at : List ℕ → ℕ → ℕ → List ℕ
name_at m i j = take (get_or m (slot_start i + first_name + name_width * j) 0) (drop (slot_start i + first_name + name_width * j + 1) m)

-- slot i of a memory of the right length
pub record At (m : List ℕ) (i : ℕ) : Type 0 where
  pub sized : length m ≡ memory_length
  pub below : i < 16

-- slot i of good memory is a peer's
pub record Seated (m : List ℕ) (i : ℕ) : Type 0 where
  pub held : Held m
  pub sized : length m ≡ memory_length
  pub below : i < 16
  pub some : number_at m i ≡ 0 → ⊥

-- what a search of the things of a list from thing `from` on comes to: the first that passes the test, or none
pub record FoundIn {A : Type 0} (t : A → Bool) (xs : List A) (from : ℕ) (r : Option ℕ) : Type 0 where
  pub inside : IfSome r (λ i. i < length xs)
  pub is : unwrap_or r (from + length (drop from xs)) ≡ from + first_by t (drop from xs)
