-- `retire::kept` meets its contract. The loop's invariant: of the own rules, those below `i` are counted.
use Rattle.retire.proofs.Covered.{keeping_ends, keeping}
use Rattle.retire.proofs.kept.Goals as goal

pub word-from-requires : goal.word-from-requires
word-from-requires c = search keeping

pub word-count-requires : goal.word-count-requires
word-count-requires c = search keeping

pub loop-i-init : goal.loop-i-init
loop-i-init c = search keeping

pub overflow_mul-at : goal.overflow_mul-at
overflow_mul-at c = search keeping

pub overflow_add-at : goal.overflow_add-at
overflow_add-at c = search keeping

pub overflow_add-at-in-loop-i : goal.overflow_add-at-in-loop-i
overflow_add-at-in-loop-i c = search keeping

pub bounds-image-at : goal.bounds-image-at
bounds-image-at c = search keeping

pub overflow_add-found : goal.overflow_add-found
overflow_add-found c = search keeping

pub loop-i-preserved : goal.loop-i-preserved
loop-i-preserved c = search keeping

pub returns : goal.returns
returns c = search (keeping_ends c.loop-i.invariant)
