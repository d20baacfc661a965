use Rattle.calls.proofs.Words.{Gathering}
use Rattle.calls.proofs.Gids.behind_uid.Given as goal

abbrev pub invariant-loop-k : goal.invariant-loop-k
invariant-loop-k l = Gathering l.argument l.count l.list l.k
