-- `names::is_unique` meets its contract.
use Rattle.names.proofs.Forms.{unique_laws}
use Rattle.names.proofs.is_unique.Goals as goal

pub returns-then-s-lt2 : goal.returns-then-s-lt2
returns-then-s-lt2 c = search unique_laws

pub returns-then-s-gt-NAME_LIMIT : goal.returns-then-s-gt-NAME_LIMIT
returns-then-s-gt-NAME_LIMIT c = search unique_laws

pub returns-then-s-ne58 : goal.returns-then-s-ne58
returns-then-s-ne58 c = search unique_laws

pub returns-then-s : goal.returns-then-s
returns-then-s c = search unique_laws

pub returns-then-s-2 : goal.returns-then-s-2
returns-then-s-2 c = search unique_laws

pub returns : goal.returns
returns c = search unique_laws
