-- `slots::find_pending` meets its contract.
use Rattle.std.proofs.Common.{rules, true, false}
use Rattle.std.proofs.lemmas.Iterator.{first_from_Range}
use Rattle.rules.specs.Pending.{is_call}
use Rattle.memory.proofs.Search.{Said}
use Rattle.slots.specs.Slots.{peer_at}
use Rattle.slots.proofs.Searches.{found_in, call_said, no_call}
use Rattle.slots.proofs.find_pending.Goals as goal

pub returns : goal.returns
returns c =
    let ps = (peer_at c.args.memory.now c.args.i).pending in
    let t = is_call c.args.callee c.args.serial in
    found_in t ps no_call c.args.from _ c.count_pending.ensures.0 _
    (first_from_Range _ _ _ _ (Said t ps no_call true) (Said t ps no_call false) c.find.ensures.ran
    (λ x q k h. search (rules, call_said)) (λ x q k. (search rules, λ h. search (rules, call_said))))
