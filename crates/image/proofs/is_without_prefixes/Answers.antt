-- `image::is_without_prefixes` meets its contract. The loop's invariant: of the own rules, those below `i` are left to be looked at, and one of them at least.
use Rattle.image.proofs.Prefixes.{looking}
use Rattle.image.proofs.is_without_prefixes.Goals as goal

pub word-from-requires : goal.word-from-requires
word-from-requires c = search looking

pub overflow_add-from : goal.overflow_add-from
overflow_add-from c = search looking

pub word-i-requires : goal.word-i-requires
word-i-requires c = search looking

pub returns-then-i-eq0 : goal.returns-then-i-eq0
returns-then-i-eq0 c = search looking

pub loop-i-init : goal.loop-i-init
loop-i-init c = search looking

pub overflow_sub-i : goal.overflow_sub-i
overflow_sub-i c = search looking

pub overflow_mul-i : goal.overflow_mul-i
overflow_mul-i c = search looking

pub overflow_add-from-in-loop-i : goal.overflow_add-from-in-loop-i
overflow_add-from-in-loop-i c = search looking

pub bounds-image-from : goal.bounds-image-from
bounds-image-from c = search looking

pub returns-then-image-from-eq-PREFIX : goal.returns-then-image-from-eq-PREFIX
returns-then-image-from-eq-PREFIX c = search looking

pub returns-then-i-eq0-2 : goal.returns-then-i-eq0-2
returns-then-i-eq0-2 c = search looking

pub loop-i-smaller : goal.loop-i-smaller
loop-i-smaller c = search looking

pub loop-i-preserved : goal.loop-i-preserved
loop-i-preserved c = search looking
