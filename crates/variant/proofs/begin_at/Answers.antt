-- `variant::begin_at` meets its contract.
use Rattle.variant.proofs.Begins.{beginning, dones}
use Rattle.variant.proofs.begin_at.Goals as goal

pub returns-then-sig-i : goal.returns-then-sig-i
returns-then-sig-i c = search beginning

pub returns-in_err-plain : goal.returns-in_err-plain
returns-in_err-plain c = search (beginning, dones, c.in_err-plain.was)

pub returns-then-is_basic : goal.returns-then-is_basic
returns-then-is_basic c = search (beginning, dones, c.in_ok-plain.was)

pub returns-then-depth-ge-OPEN_LIMIT : goal.returns-then-depth-ge-OPEN_LIMIT
returns-then-depth-ge-OPEN_LIMIT c = search beginning

pub returns : goal.returns
returns c = search beginning
