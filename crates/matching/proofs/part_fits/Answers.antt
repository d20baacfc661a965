-- `matching::part_fits` meets its contract.
use Rattle.matching.proofs.Fits.{fits}
use Rattle.matching.proofs.part_fits.Goals as goal

pub overflow_add-at : goal.overflow_add-at
overflow_add-at c = search fits

pub word-len-requires : goal.word-len-requires
word-len-requires c = search fits

pub returns-then-len-eq0 : goal.returns-then-len-eq0
returns-then-len-eq0 c = search fits

pub returns-then-place-len : goal.returns-then-place-len
returns-then-place-len c = search fits

pub overflow_add-to : goal.overflow_add-to
overflow_add-to c = search fits

pub text-requires : goal.text-requires
text-requires c = search fits

pub slice_bounds-equal-count : goal.slice_bounds-equal-count
slice_bounds-equal-count c = search fits

pub slice_bounds-equal-start : goal.slice_bounds-equal-start
slice_bounds-equal-start c = search fits

pub slice_bounds-equal-end : goal.slice_bounds-equal-end
slice_bounds-equal-end c = search fits

pub equal-requires : goal.equal-requires
equal-requires c = search fits

pub returns : goal.returns
returns c = search fits
