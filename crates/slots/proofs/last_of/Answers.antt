-- `slots::last_of` meets its contract.
use borrow.Author.Rules.{rules}
use mathlib.Core.Path.{◌≡◌, sym, ◌∙◌}
use mathlib.Core.List.{List}
use Prim.Native.Nat.{ℕ}
use Rattle.wire.specs.Words.{word_at}
use Rattle.wire.specs.declared.Order.TheVariants.{Little}
use Rattle.memory.specs.Encoding.{state_of}
use Rattle.memory.proofs.Reading.{last_at}
use Rattle.slots.proofs.last_of.Goals as goal

last_word : (m : List ℕ) (r : ℕ) → r ≡ word_at Little m 0 → r ≡ (state_of m).last
last_word m r e = e ∙ sym (last_at m)

pub returns : goal.returns
returns c = search (last_word, rules)
