-- `image::check` meets its contract.
use Rattle.image.proofs.Ways.{no_header, all_good, some_bad}
use Rattle.image.proofs.Holds.{header_passed}
use Rattle.image.proofs.check.Goals as goal

pub returns-then-not-has_header : goal.returns-then-not-has_header
returns-then-not-has_header c = search no_header

pub are_rules-requires : goal.are_rules-requires
are_rules-requires c = search header_passed

pub are_rules-requires-2 : goal.are_rules-requires-2
are_rules-requires-2 c = search header_passed

pub are_rules-requires-3 : goal.are_rules-requires-3
are_rules-requires-3 c = search header_passed

pub returns-then-are_rules : goal.returns-then-are_rules
returns-then-are_rules c = search all_good

pub returns-else-are_rules : goal.returns-else-are_rules
returns-else-are_rules c = search some_bad
