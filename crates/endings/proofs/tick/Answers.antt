-- `endings::tick` meets its contract.
use Rattle.endings.proofs.Ticks.{ticking}
use Rattle.endings.proofs.tick.Goals as goal

pub returns-then-present-tick_of : goal.returns-then-present-tick_of
returns-then-present-tick_of c = search ticking

pub end_all-ended-requires : goal.end_all-ended-requires
end_all-ended-requires c = search ticking

pub returns : goal.returns
returns c = search ticking
