-- `wire::put_u32` meets its contract.
use Rattle.std.proofs.Common.{◌∙◌}
use Rattle.wire.proofs.Words.{stored}
use Rattle.wire.proofs.put_u32.Goals as goal

pub returns : goal.returns
returns c = stored c.args.s.now _ c.args.at c.args.x (c.copy_from_slice.ensures.after ∙ c.to_le_bytes.ensures)
