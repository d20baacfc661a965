-- `endings::end_where` meets its contract.
use Rattle.std.proofs.Common.{rules}
use Rattle.endings.proofs.Calls.{removal, removal_slot, removal_small, removal_more}
use Rattle.endings.proofs.end_where.Goals as goal

pub loop-i-init : goal.loop-i-init
loop-i-init g c t h = search removal

pub end_at-ended-requires-clause-plain : goal.end_at-ended-requires-clause-plain
end_at-ended-requires-clause-plain g c = removal_slot (c.loop-i.invariant c.requires.test.0 c.requires.test.1) c.loop-i-test.true

pub overflow_add-ended : goal.overflow_add-ended
overflow_add-ended g c =
    let b = removal_small (c.loop-i.invariant c.requires.test.0 c.requires.test.1) _ (c.end_at-ended.ensures c.requires.test.0 c.requires.test.1).few c.loop-i-test.true in
    search (b, rules)

pub loop-i-preserved : goal.loop-i-preserved
loop-i-preserved g c t h = removal_more (c.loop-i.invariant t h) c.loop-i-test.true _ _ (c.end_at-ended.ensures t h)

pub returns : goal.returns
returns g c t h = search (removal, c.loop-i.invariant t h)
