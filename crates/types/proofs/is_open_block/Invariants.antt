-- `types::is_open_block` meets its contract.
use Rattle.std.proofs.Common.{◌≡◌, true, ◌+◌}
use Rattle.types.specs.Promises.{Opens}
use Rattle.types.proofs.is_open_block.Given as goal

abbrev pub invariant-loop-k : goal.invariant-loop-k
invariant-loop-k l = l.good ≡ true → Opens l.s l.at (l.at + l.k)
