-- `decide::last_of` meets its contract. The loop's invariant: no rule of the context that stands at `at` or behind it matches.
use Rattle.std.proofs.Common.{◌-◌}
use Rattle.decide.proofs.Down.{Left}
use Rattle.decide.proofs.last_of.Given as goal

abbrev pub invariant-loop-at : goal.invariant-loop-at
invariant-loop-at g l = Left (goal.F-post g l.fits) l.fn.section l.image l.context l.at

abbrev pub decreases-loop-at : goal.decreases-loop-at
decreases-loop-at g l = l.at - l.from
