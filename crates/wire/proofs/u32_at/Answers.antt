-- `wire::u32_at` meets its contract.
use Rattle.std.proofs.Common.{◌≡◌, List, ℕ, ◌+◌, ◌*◌, get_or, arith, rules}
use Rattle.wire.specs.Words.{word_at}
use Rattle.wire.specs.declared.Order.{Order}
use Rattle.wire.specs.declared.Order.TheVariants.{Little, Big}
use Rattle.wire.proofs.u32_at.Goals as goal

module _ (s : List ℕ) (at r : ℕ) (o : Order) where
  little : o ≡ Little → r ≡ get_or s at 0 + get_or s (at + 1) 0 * 256 + get_or s (at + 2) 0 * 65536 + get_or s (at + 3) 0 * 16777216 → r ≡ word_at o s at
  unfolding word_at
  little b e = rw b (omega arith)

  big : o ≡ Big → r ≡ get_or s at 0 * 16777216 + get_or s (at + 1) 0 * 65536 + get_or s (at + 2) 0 * 256 + get_or s (at + 3) 0 → r ≡ word_at o s at
  unfolding word_at
  big b e = rw b (omega arith)

pub returns-in-Little : goal.returns-in-Little
returns-in-Little c = search (little, rules)

pub returns-in-Big : goal.returns-in-Big
returns-in-Big c = search (big, rules)
