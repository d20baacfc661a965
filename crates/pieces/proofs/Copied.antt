-- The head that a slot keeps.
use Rattle.std.proofs.Common.{◌≡◌, List, ℕ, ◌+◌, ◌≤◌, ◌<◌, arith, length, drop, length-drop, length-take-le}
use Rattle.memory.specs.Layout.{memory_length, slot_start, first_byte, head_room}
use Rattle.pieces.specs.Fed.{head_in}

module _ (m : List ℕ) (i n : ℕ) (l : length m ≡ memory_length) (h : i < 16) (s : n ≤ head_room) where
  pub head_length_lem : length (head_in m i n) ≡ n
  head_length_lem = length-take-le n (drop (slot_start i + first_byte) m) (omega (arith, length-drop (slot_start i + first_byte) m))
