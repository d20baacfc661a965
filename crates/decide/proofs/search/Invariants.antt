-- `decide::search` meets its contract. The loop's invariant: the search from the highest precedence down has come to the contexts that are left.
use Rattle.std.proofs.Common.{ℕ, Bool, ◌-◌}
use Rattle.decide.specs.Promises.{Tells}
use Rattle.decide.proofs.Down.{SearchingBelow}
use Rattle.decide.proofs.search.Given as goal

abbrev pub invariant-loop-context : goal.invariant-loop-context
invariant-loop-context g l =
    (matches : ℕ → Bool) → Tells (goal.F-post g l.fits) l.section l.image matches → SearchingBelow l.section l.image matches (4 - l.context-index)
