-- `retire::covering` meets its contract. The loop's invariant: of the own rules, those below `i` are counted.
use Rattle.retire.proofs.Covered.{covering_ends, covering}
use Rattle.retire.proofs.covering.Goals as goal

pub word-strings-requires : goal.word-strings-requires
word-strings-requires c = search covering

pub word-from-requires : goal.word-from-requires
word-from-requires c = search covering

pub word-count-requires : goal.word-count-requires
word-count-requires c = search covering

pub loop-i-init : goal.loop-i-init
loop-i-init c = search covering

pub overflow_mul-at : goal.overflow_mul-at
overflow_mul-at c = search covering

pub overflow_add-at : goal.overflow_add-at
overflow_add-at c = search covering

pub covers-requires : goal.covers-requires
covers-requires c = search covering

pub overflow_add-found : goal.overflow_add-found
overflow_add-found c = search covering

pub loop-i-preserved : goal.loop-i-preserved
loop-i-preserved c = search covering

pub returns : goal.returns
returns c = search (covering_ends c.loop-i.invariant)
