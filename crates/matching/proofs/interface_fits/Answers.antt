-- `matching::interface_fits` meets its contract.
use Rattle.matching.proofs.Fits.{fits}
use Rattle.matching.proofs.interface_fits.Goals as goal

pub overflow_add-at : goal.overflow_add-at
overflow_add-at c = search fits

pub overflow_add-at-then-place-eq0 : goal.overflow_add-at-then-place-eq0
overflow_add-at-then-place-eq0 c = search fits

pub word-requires : goal.word-requires
word-requires c = search fits

pub overflow_add-result : goal.overflow_add-result
overflow_add-result c = search fits

pub bounds-image-at : goal.bounds-image-at
bounds-image-at c = search fits

pub returns-then-place-eq0 : goal.returns-then-place-eq0
returns-then-place-eq0 c = search fits

pub overflow_add-at-2 : goal.overflow_add-at-2
overflow_add-at-2 c = search fits

pub part_fits-requires : goal.part_fits-requires
part_fits-requires c = search fits

pub returns : goal.returns
returns c = search fits
