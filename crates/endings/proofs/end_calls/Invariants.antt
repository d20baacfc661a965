-- `endings::end_calls` meets its contract.
use Rattle.std.proofs.Common.{Bool}
use Rattle.rules.specs.State.{Pending}
use Rattle.tables.specs.Tables.{table_of}
use Rattle.memory.specs.Layout.{call_width, call_room}
use Rattle.memory.specs.Encoding.{pending_of}
use Rattle.memory.proofs.Ending.{Ending}
use Rattle.endings.specs.Endings.{EndsBy}
use Rattle.endings.proofs.end_calls.Given as goal

abbrev pub invariant-loop-j : goal.invariant-loop-j
invariant-loop-j g l =
    (t : Pending → Bool) → EndsBy (goal.F-post g l.ends) t
    → Ending t (table_of call_width call_room pending_of l.initial.table) l.table l.before l.n l.j
