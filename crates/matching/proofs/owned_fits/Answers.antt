-- `matching::owned_fits` meets its contract.
use Rattle.matching.proofs.Fits.{fits}
use Rattle.matching.proofs.owned_fits.Goals as goal

pub overflow_add-matcher : goal.overflow_add-matcher
overflow_add-matcher c = search fits

pub bounds-image-at : goal.bounds-image-at
bounds-image-at c = search fits

pub returns-then-matcher-eq0 : goal.returns-then-matcher-eq0
returns-then-matcher-eq0 c = search fits

pub overflow_add-at : goal.overflow_add-at
overflow_add-at c = search fits

pub text-own-requires : goal.text-own-requires
text-own-requires c = search fits

pub equal-requires : goal.equal-requires
equal-requires c = search fits

pub returns-then-matcher-eq1 : goal.returns-then-matcher-eq1
returns-then-matcher-eq1 c = search fits

pub in_namespace-requires : goal.in_namespace-requires
in_namespace-requires c = search fits

pub returns : goal.returns
returns c = search fits
