-- `endings::end_calls` meets its contract.
use Rattle.std.proofs.Common.{rules, arith}
use Rattle.memory.proofs.Ending.{ending, ending_cell, ending_out, ending_stays}
use Rattle.endings.proofs.Calls.{call_tells, calls_ended_lem}
use Rattle.endings.proofs.end_calls.Goals as goal

pub loop-j-init : goal.loop-j-init
loop-j-init g c t h = search ending

pub u32_at-callee-requires : goal.u32_at-callee-requires
u32_at-callee-requires g c =
    let k = ending_cell (c.loop-j.invariant c.requires.test.0 c.requires.test.1) c.loop-j-test.true in
    omega (arith, k.inside, k.room)

pub u64_at-tick-requires : goal.u64_at-tick-requires
u64_at-tick-requires g c =
    let k = ending_cell (c.loop-j.invariant c.requires.test.0 c.requires.test.1) c.loop-j-test.true in
    omega (arith, k.inside, k.room)

pub overflow_sub-n : goal.overflow_sub-n
overflow_sub-n g c = omega (arith, (c.loop-j.invariant c.requires.test.0 c.requires.test.1).below, c.loop-j-test.true)

pub remove-requires : goal.remove-requires
remove-requires g c = ending_cell (c.loop-j.invariant c.requires.test.0 c.requires.test.1) c.loop-j-test.true

pub overflow_sub-n-then-ends : goal.overflow_sub-n-then-ends
overflow_sub-n-then-ends g c = omega (arith, (c.loop-j.invariant c.requires.test.0 c.requires.test.1).below, c.loop-j-test.true)

pub loop-j-preserved-then-ends : goal.loop-j-preserved-then-ends
loop-j-preserved-then-ends g c t h =
    ending_out (c.loop-j.invariant t h) c.loop-j-test.true c.ends.result (call_tells _ _ _ h c.u32_at-callee.ensures c.u64_at-tick.ensures c.ends.ensures)
    c.if-ends.true c.remove.new.table c.remove.ensures

pub loop-j-preserved : goal.loop-j-preserved
loop-j-preserved g c t h =
    ending_stays (c.loop-j.invariant t h) c.loop-j-test.true c.ends.result (call_tells _ _ _ h c.u32_at-callee.ensures c.u64_at-tick.ensures c.ends.ensures)
    c.if-ends.false

pub overflow_sub-result : goal.overflow_sub-result
overflow_sub-result g c = (c.loop-j.invariant c.requires.test.0 c.requires.test.1).fewer

pub returns : goal.returns
returns g c t h = search (calls_ended_lem (c.loop-j.invariant t h), rules)
