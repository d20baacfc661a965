-- `matching::own_fits` meets its contract.
use Rattle.matching.proofs.Fits.{fits}
use Rattle.matching.proofs.own_fits.Goals as goal

pub overflow_add-at : goal.overflow_add-at
overflow_add-at c = search fits

pub u32_at-subject-requires : goal.u32_at-subject-requires
u32_at-subject-requires c = search fits

pub bounds-image-at : goal.bounds-image-at
bounds-image-at c = search fits

pub subject_fits-requires : goal.subject_fits-requires
subject_fits-requires c = search fits

pub returns-then-not-subject_fits : goal.returns-then-not-subject_fits
returns-then-not-subject_fits c = search fits

pub owned_fits-requires : goal.owned_fits-requires
owned_fits-requires c = search fits

pub returns : goal.returns
returns c = search fits
