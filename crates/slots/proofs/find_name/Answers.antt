-- `slots::find_name` meets its contract.
use Rattle.std.proofs.Common.{Some, None, [], rules, arith}
use Rattle.wire.specs.Bytes.{same}
use Rattle.slots.specs.Slots.{peer_at}
use Rattle.slots.proofs.Searches.{found_in, name_said}
use Rattle.slots.proofs.find_name.Goals as goal

pub returns-then-equal : goal.returns-then-equal
returns-then-equal c =
    found_in (λ x. same x c.args.name.now) (peer_at c.args.memory.now c.args.i).names [] c.args.from _ c.count_names-j-end.ensures.0 (Some _)
    (omega arith, omega arith, (λ h. search (rules, name_said)), c.loop-j.invariant)

pub loop-j-preserved : goal.loop-j-preserved
loop-j-preserved c = search (rules, name_said)

pub returns : goal.returns
returns c =
    found_in (λ x. same x c.args.name.now) (peer_at c.args.memory.now c.args.i).names [] c.args.from _ c.count_names-j-end.ensures.0 None
    (λ k a b. c.loop-j.invariant k a (omega arith))
