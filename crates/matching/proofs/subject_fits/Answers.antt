-- `matching::subject_fits` meets its contract.
use Rattle.matching.proofs.Subjects.{subjects}
use Rattle.matching.proofs.subject_fits.Goals as goal

pub in_groups-requires : goal.in_groups-requires
in_groups-requires c = search subjects

pub returns-then-context-eq1 : goal.returns-then-context-eq1
returns-then-context-eq1 c = search subjects

pub returns-then-context-eq2 : goal.returns-then-context-eq2
returns-then-context-eq2 c = search subjects

pub returns : goal.returns
returns c = search subjects
