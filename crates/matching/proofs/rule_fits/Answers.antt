-- `matching::rule_fits` meets its contract.
use Rattle.matching.proofs.Fits.{fits}
use Rattle.matching.proofs.rule_fits.Goals as goal

pub overflow_add-of : goal.overflow_add-of
overflow_add-of c = search fits

pub bounds-image-at : goal.bounds-image-at
bounds-image-at c = search fits

pub returns-then-of-header : goal.returns-then-of-header
returns-then-of-header c = search fits

pub overflow_add-at : goal.overflow_add-at
overflow_add-at c = search fits

pub u32_at-subject-requires : goal.u32_at-subject-requires
u32_at-subject-requires c = search fits

pub bounds-image-at-2 : goal.bounds-image-at-2
bounds-image-at-2 c = search fits

pub subject_fits-requires : goal.subject_fits-requires
subject_fits-requires c = search fits

pub returns-then-not-subject_fits : goal.returns-then-not-subject_fits
returns-then-not-subject_fits c = search fits

pub parts_fit-requires : goal.parts_fit-requires
parts_fit-requires c = search fits

pub returns : goal.returns
returns c = search fits
