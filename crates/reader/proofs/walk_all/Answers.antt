-- `reader::walk_all` meets its contract.
use Rattle.reader.proofs.Walking.{walking, told}
use Rattle.reader.proofs.walk_all.Goals as goal

pub returns-in_err-stop : goal.returns-in_err-stop
returns-in_err-stop c = rw c.from_residual.ensures (search (walking, c.in_err-stop.was))

pub loop-from-smaller-in-Skip : goal.loop-from-smaller-in-Skip
loop-from-smaller-in-Skip c = search (walking, told c.in_ok-stop.was c.in-Skip.is)

pub loop-from-preserved-in-Skip : goal.loop-from-preserved-in-Skip
loop-from-preserved-in-Skip c = search (walking, told c.in_ok-stop.was c.in-Skip.is)

pub offset_bounds-places-code : goal.offset_bounds-places-code
offset_bounds-places-code c = search (walking, told c.in_ok-stop.was c.in-At.is)

pub bounds-places-code : goal.bounds-places-code
bounds-places-code c = search (walking, told c.in_ok-stop.was c.in-At.is)

pub returns-then-seen-ne0 : goal.returns-then-seen-ne0
returns-then-seen-ne0 c = search (walking, told c.in_ok-stop.was c.in-At.is)

pub offset_bounds-places-code-in-At : goal.offset_bounds-places-code-in-At
offset_bounds-places-code-in-At c = search (walking, told c.in_ok-stop.was c.in-At.is)

pub bounds-places-code-in-At : goal.bounds-places-code-in-At
bounds-places-code-in-At c = search (walking, told c.in_ok-stop.was c.in-At.is)

pub loop-from-smaller : goal.loop-from-smaller
loop-from-smaller c = search (walking, told c.in_ok-stop.was c.in-At.is)

pub loop-from-preserved : goal.loop-from-preserved
loop-from-preserved c = search (walking, told c.in_ok-stop.was c.in-At.is)

pub returns : goal.returns
returns c = search walking
