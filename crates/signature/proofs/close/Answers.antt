-- `signature::close` meets its contract.
use Rattle.std.proofs.Common.{◌≡◌, Bool, true, false, ◌&&◌, List, ℕ, ◌+◌, ◌≤◌, ◌<◌, eqb, length, drop, get_or, rules}
use mathlib.Core.Option.{none, some}
use Rattle.signature.specs.Signature.{closed_by}
use Rattle.wire.proofs.From.{next, past}
use Rattle.signature.proofs.close.Goals as goal

module _ (s : List ℕ) (end : ℕ) (well : Bool) (by : ℕ) where
  none_left : length s ≤ end → none ≡ closed_by by well (drop end s)
  unfolding closed_by
  none_left h = rw (past s end h)

  closes : end < length s → well && eqb (get_or s end 0) by ≡ true → some (drop (end + 1) s) ≡ closed_by by well (drop end s)
  unfolding closed_by
  closes h t = rw (next s end h, t)

  differs : end < length s → well && eqb (get_or s end 0) by ≡ false → none ≡ closed_by by well (drop end s)
  unfolding closed_by
  differs h t = rw (next s end h, t)

ruleset closing = (none_left, closes, differs, rules)

pub returns-then-s-end : goal.returns-then-s-end
returns-then-s-end c = search closing

pub returns-then-well-s : goal.returns-then-well-s
returns-then-well-s c = search closing

pub returns-else-well-s : goal.returns-else-well-s
returns-else-well-s c = search closing
