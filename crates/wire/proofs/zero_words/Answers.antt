-- `wire::zero_words` meets its contract.
use Rattle.std.proofs.Common.{rules}
use Rattle.wire.proofs.Blocks.{zeros}
use Rattle.wire.proofs.Loads.{loads, zeros_last}
use Rattle.wire.proofs.zero_words.Goals as goal

pub loop-i-init : goal.loop-i-init
loop-i-init c = search (zeros, loads)

pub returns-then-u64_at-ne0 : goal.returns-then-u64_at-ne0
returns-then-u64_at-ne0 c = search (zeros, loads)

pub loop-i-preserved : goal.loop-i-preserved
loop-i-preserved c = search (zeros, loads)

pub returns : goal.returns
returns c = search (zeros_last, rules)
