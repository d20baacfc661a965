-- `matching::connect_fits` meets its contract.
use Rattle.matching.proofs.Fits.{fits}
use Rattle.matching.proofs.connect_fits.Goals as goal

pub overflow_add-matcher : goal.overflow_add-matcher
overflow_add-matcher c = search fits

pub bounds-image-at : goal.bounds-image-at
bounds-image-at c = search fits

pub returns-then-matcher-eq0 : goal.returns-then-matcher-eq0
returns-then-matcher-eq0 c = search fits

pub overflow_add-at : goal.overflow_add-at
overflow_add-at c = search fits

pub u32_at-id-requires : goal.u32_at-id-requires
u32_at-id-requires c = search fits

pub returns-then-matcher-eq1 : goal.returns-then-matcher-eq1
returns-then-matcher-eq1 c = search fits

pub in_groups-requires : goal.in_groups-requires
in_groups-requires c = search fits

pub returns : goal.returns
returns c = search fits
