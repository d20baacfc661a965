-- `names::is_member` meets its contract.
use Rattle.names.proofs.Forms.{member_laws}
use Rattle.names.proofs.is_member.Goals as goal

pub returns-then-s-eq0 : goal.returns-then-s-eq0
returns-then-s-eq0 c = search member_laws

pub returns-then-s-gt-NAME_LIMIT : goal.returns-then-s-gt-NAME_LIMIT
returns-then-s-gt-NAME_LIMIT c = search member_laws

pub returns-then-class-ne0 : goal.returns-then-class-ne0
returns-then-class-ne0 c = search member_laws

pub returns : goal.returns
returns c = search member_laws
