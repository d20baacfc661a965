-- `endings::end_at` meets its contract.
use Rattle.endings.proofs.Calls.{slot_calls}
use Rattle.endings.proofs.end_at.Goals as goal

pub returns-then-number_at-eq0 : goal.returns-then-number_at-eq0
returns-then-number_at-eq0 g c t h = search slot_calls

pub end_calls-requires-clause-plain : goal.end_calls-requires-clause-plain
end_calls-requires-clause-plain g c = search slot_calls

pub returns : goal.returns
returns g c t h = search (slot_calls, c.end_calls.ensures t h)
