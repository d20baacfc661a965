-- `wire::peek` meets its contract.
use Rattle.std.proofs.Common.{◌≡◌, sym, ap, List, ℕ, ◌≤◌, length, drop, get_or}
use Rattle.wire.specs.Bytes.{front}
use Rattle.wire.proofs.From.{first, past}
use Rattle.wire.proofs.peek.Goals as goal

inside : (s : List ℕ) (i : ℕ) → get_or s i 0 ≡ front (drop i s)
inside s i = sym (first s i)

outside : (s : List ℕ) (i : ℕ) → length s ≤ i → 0 ≡ front (drop i s)
outside s i h = sym (ap front (past s i h))

pub returns-then-i-s : goal.returns-then-i-s
returns-then-i-s c = search inside

pub returns-else-i-s : goal.returns-else-i-s
returns-else-i-s c = search outside
