-- `image::has_header` meets its contract.
use Rattle.image.proofs.Ways.{too_short, too_long, header_is}
use Rattle.image.proofs.has_header.Goals as goal

pub returns-then-image-lt-SECTIONS_AT : goal.returns-then-image-lt-SECTIONS_AT
returns-then-image-lt-SECTIONS_AT c = search too_short

pub returns-then-image-gt65536 : goal.returns-then-image-gt65536
returns-then-image-gt65536 c = search too_long

pub returns : goal.returns
returns c = search header_is
