-- `matching::in_groups` meets its contract.
use Rattle.matching.proofs.Subjects.{looking}
use Rattle.matching.proofs.in_groups.Goals as goal

pub returns-then-gids-i : goal.returns-then-gids-i
returns-then-gids-i c = search looking

pub loop-i-preserved : goal.loop-i-preserved
loop-i-preserved c = search looking

pub returns : goal.returns
returns c = search looking
