-- `slots::gids_at` meets its contract.
use Rattle.slots.proofs.Groups.{Gathering}
use Rattle.slots.proofs.gids_at.Given as goal

abbrev pub invariant-loop-k : goal.invariant-loop-k
invariant-loop-k l = Gathering l.memory l.i l.count l.list l.k
