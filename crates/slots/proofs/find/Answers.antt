-- `slots::find` meets its contract.
use Rattle.std.proofs.Common.{rules, ◌∙◌, true, false, arith}
use Rattle.std.proofs.lemmas.Iterator.{first_from_Range}
use Rattle.rules.specs.State.{is_peer}
use Rattle.memory.proofs.Search.{slot_found, SaidOfSlot}
use Rattle.memory.proofs.Find.{peer_is, peer_nobody}
use Rattle.slots.proofs.find.Goals as goal

pub returns-then-number-eq0 : goal.returns-then-number-eq0
returns-then-number-eq0 c = search peer_nobody

pub returns : goal.returns
returns c =
    let m = c.args.memory.now in
    let n = c.args.number in
    slot_found (is_peer n) m c.args.from (omega arith) _
    (first_from_Range _ _ _ _ (SaidOfSlot (is_peer n) m true) (SaidOfSlot (is_peer n) m false) c.find.ensures.ran
    (λ x q t h. peer_is n m x h (omega arith) ∙ search rules) (λ x q t. (search rules, λ h. peer_is n m x h (omega arith) ∙ search rules)))
