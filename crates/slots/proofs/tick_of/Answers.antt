-- `slots::tick_of` meets its contract.
use borrow.Author.Rules.{rules}
use mathlib.Core.Path.{◌≡◌, sym, ◌∙◌}
use mathlib.Core.List.{List}
use Prim.Native.Nat.{ℕ}
use Rattle.wire.specs.Words.{long_at}
use Rattle.memory.specs.Layout.{tick_at}
use Rattle.memory.specs.Encoding.{state_of}
use Rattle.memory.proofs.Reading.{tick_at_lem}
use Rattle.slots.proofs.tick_of.Goals as goal

last-tick : (m : List ℕ) (r : ℕ) → r ≡ long_at m tick_at → r ≡ (state_of m).tick
last-tick m r e = e ∙ sym (tick_at_lem m)

pub returns : goal.returns
returns c = search (last-tick, rules)
