-- The cycle of calls {items, step_at, typed, value}. `step_at` has two for each byte that is left and two for each thing that may still be opened; `value`,
-- which calls it at the same place, has one more, and `items` and `typed`, which call `value`, have two more.
use Rattle.std.proofs.Common.{length, ◌-◌, ◌+◌, ◌*◌}
use Rattle.variant.proofs.Walking.{ItemsGoing, Going}
use Rattle.variant.proofs.+items_step_at_typed_value.Given as goal

abbrev pub decreases-items : goal.decreases-items
decreases-items l = 2 * (length l.head.now - l.at) + 2 * (64 - l.depth) + 2

abbrev pub decreases-step_at : goal.decreases-step_at
decreases-step_at l = 2 * (length l.head.now - l.at) + 2 * (64 - l.depth)

abbrev pub decreases-typed : goal.decreases-typed
decreases-typed l = 2 * (length l.head.now - l.at) + 2 * (64 - l.depth) + 2

abbrev pub decreases-value : goal.decreases-value
decreases-value l = 2 * (length l.head.now - l.at) + 2 * (64 - l.depth) + 1

abbrev pub invariant-items-loop-p : goal.invariant-items-loop-p
invariant-items-loop-p l = ItemsGoing l.order l.head l.depth l.sig l.i l.at l.p

abbrev pub decreases-items-loop-p : goal.decreases-items-loop-p
decreases-items-loop-p l = length l.head - l.p

abbrev pub invariant-value-loop-start : goal.invariant-value-loop-start
invariant-value-loop-start l = Going l.order l.head l.depth l.sig l.i l.at l.j l.p l.rows

abbrev pub decreases-value-loop-start : goal.decreases-value-loop-start
decreases-value-loop-start l = length l.sig - l.j
