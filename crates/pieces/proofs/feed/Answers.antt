-- `pieces::feed` meets its contract.
use Rattle.pieces.proofs.Feeding.{fed, feeding}
use mathlib.Core.Path.{refl}
use Rattle.pieces.proofs.feed.Goals as goal

pub advance-a-requires : goal.advance-a-requires
advance-a-requires c = search feeding

pub returns : goal.returns
returns c = fed _ c.requires _ c.u32_at.ensures.0 c.u32_at-2.ensures.0 _ _ _ _ _ _ c.advance-a.ensures refl c.put_u32.ensures c.put_u32-2.ensures
