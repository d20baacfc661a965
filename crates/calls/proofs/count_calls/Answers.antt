use Rattle.std.proofs.Common.{◌≡◌, ◌<◌, length, arith}
use Rattle.calls.proofs.Entries.{counting_more, counting_broken, counting_ends}
use Rattle.calls.proofs.count_calls.Goals as goal

pub loop-entry-preserved : goal.loop-entry-preserved
loop-entry-preserved c = counting_more c.loop-entry.invariant c.in-Some.ensures.entry c.size.ensures

pub returns-then-is_empty : goal.returns-then-is_empty
returns-then-is_empty c =
    let h : length c.loop-entry.rest.now ≡ 0 = grind (arith, c.is_empty.ensures, c.if-is_empty.true) in
    counting_ends c.loop-entry.invariant h

pub returns-else-is_empty : goal.returns-else-is_empty
returns-else-is_empty c =
    let h : 0 < length c.loop-entry.rest.now = grind (arith, c.is_empty.ensures, c.if-is_empty.false) in
    counting_broken c.loop-entry.invariant c.in_default.ensures.broken h
