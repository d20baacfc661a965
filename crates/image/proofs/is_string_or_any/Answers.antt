-- `image::is_string_or_any` meets its contract.
use Rattle.image.proofs.Ways.{any, literal}
use Rattle.image.proofs.is_string_or_any.Goals as goal

pub returns-then-word-eq0 : goal.returns-then-word-eq0
returns-then-word-eq0 c = search any

pub returns : goal.returns
returns c = search literal
