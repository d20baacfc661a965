-- `slots::find_owner` meets its contract.
use Rattle.std.proofs.Common.{Some, None, rules, arith}
use Rattle.rules.specs.Calls.{is_owner}
use Rattle.memory.proofs.Search.{slot_found}
use Rattle.slots.proofs.find_owner.Goals as goal

pub returns-then-is_owner : goal.returns-then-is_owner
returns-then-is_owner c =
    slot_found (is_owner c.args.name.now) c.args.memory.now c.args.from (omega arith) (Some _)
    (omega arith, omega arith, (λ h. search rules), c.loop-i.invariant)

pub returns : goal.returns
returns c =
    slot_found (is_owner c.args.name.now) c.args.memory.now c.args.from (omega arith) None (λ k a b. c.loop-i.invariant k a (omega arith))
