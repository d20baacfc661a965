-- `judge::to_all` meets its contract.
use Rattle.judge.proofs.Everybody.{Masking}
use Rattle.judge.proofs.to_all.Given as goal

abbrev pub invariant-loop-k : goal.invariant-loop-k
invariant-loop-k l = Masking l.image l.memory l.i l.head l.header l.mask l.k
