-- `endings::end_where` meets its contract.
use Rattle.std.proofs.Common.{Bool}
use Rattle.rules.specs.State.{Pending}
use Rattle.endings.specs.Endings.{EndsBy}
use Rattle.endings.proofs.Calls.{RemovalInvariant}
use Rattle.endings.proofs.end_where.Given as goal

abbrev pub invariant-loop-i : goal.invariant-loop-i
invariant-loop-i g l =
    (t : Pending → Bool) → EndsBy (goal.F-post g l.ends) t → RemovalInvariant t l.initial.memory l.memory l.ended l.i
