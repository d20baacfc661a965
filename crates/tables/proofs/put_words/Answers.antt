-- `tables::put_words` meets its contract.
use Rattle.tables.proofs.Row.{putting}
use Rattle.tables.proofs.put_words.Goals as goal

pub loop-k-init : goal.loop-k-init
loop-k-init c = search putting

pub loop-k-preserved : goal.loop-k-preserved
loop-k-preserved c = search putting
