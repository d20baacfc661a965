-- `wire::equal_words` meets its contract.
use Rattle.wire.proofs.Loads.{words}
use Rattle.wire.proofs.equal_words.Goals as goal

pub returns-then-u64_at : goal.returns-then-u64_at
returns-then-u64_at c = search words

pub loop-i-init : goal.loop-i-init
loop-i-init c = search words

pub returns-then-u64_at-2 : goal.returns-then-u64_at-2
returns-then-u64_at-2 c = search words

pub loop-i-preserved : goal.loop-i-preserved
loop-i-preserved c = search words

pub returns : goal.returns
returns c = search words
