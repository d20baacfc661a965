-- `addresses::find_addressee` meets its contract.
use Rattle.std.proofs.Common.{rules, true, false, arith}
use Rattle.std.proofs.lemmas.Iterator.{first_from_Range}
use Rattle.rules.specs.Addresses.{answers_to}
use Rattle.memory.proofs.Search.{slot_found, SaidOfSlot}
use Rattle.addresses.proofs.find_addressee.Goals as goal

pub returns : goal.returns
returns c =
    let m = c.args.memory.now in
    let t = answers_to c.args.text.now in
    slot_found t m 0 (omega arith) _
    (first_from_Range _ _ _ _ (SaidOfSlot t m true) (SaidOfSlot t m false) c.find.ensures.ran
    (λ x q k h. search rules) (λ x q k. (search rules, λ h. search rules)))
