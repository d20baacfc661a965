-- `slots::find_free` meets its contract.
use Rattle.std.proofs.Common.{rules, ◌∙◌, true, false, arith}
use Rattle.std.proofs.lemmas.Iterator.{first_from_Range}
use Rattle.rules.specs.State.{is_free}
use Rattle.memory.proofs.Search.{slot_found, SaidOfSlot}
use Rattle.memory.proofs.Find.{free_is}
use Rattle.slots.proofs.find_free.Goals as goal

pub returns : goal.returns
returns c =
    let m = c.args.memory.now in
    slot_found is_free m 0 (omega arith) _
    (first_from_Range _ _ _ _ (SaidOfSlot is_free m true) (SaidOfSlot is_free m false) c.find.ensures.ran
    (λ x q t h. free_is m x h ∙ search rules) (λ x q t. (search rules, λ h. free_is m x h ∙ search rules)))
