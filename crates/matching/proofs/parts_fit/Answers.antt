-- `matching::parts_fit` meets its contract.
use Rattle.matching.proofs.Fits.{fits}
use Rattle.matching.proofs.parts_fit.Goals as goal

pub overflow_add-at : goal.overflow_add-at
overflow_add-at c = search fits

pub part_fits-requires : goal.part_fits-requires
part_fits-requires c = search fits

pub returns-then-not-part_fits : goal.returns-then-not-part_fits
returns-then-not-part_fits c = search fits

pub interface_fits-requires : goal.interface_fits-requires
interface_fits-requires c = search fits

pub returns-then-not-interface_fits : goal.returns-then-not-interface_fits
returns-then-not-interface_fits c = search fits

pub overflow_add-at-2 : goal.overflow_add-at-2
overflow_add-at-2 c = search fits

pub part_fits-requires-2 : goal.part_fits-requires-2
part_fits-requires-2 c = search fits

pub returns : goal.returns
returns c = search fits
