use Rattle.exacts.proofs.Exacts.{making}
use Rattle.exacts.proofs.put_exacts.Goals as goal

pub put_exact-requires : goal.put_exact-requires
put_exact-requires c = search making

pub returns : goal.returns
returns c = search making

pub loop-start-init : goal.loop-start-init
loop-start-init c = search making

pub loop-start-preserved : goal.loop-start-preserved
loop-start-preserved c = search making
