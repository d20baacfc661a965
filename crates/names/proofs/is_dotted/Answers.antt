-- `names::is_dotted` meets its contract.
use Rattle.names.proofs.Forms.{dotted_laws}
use Rattle.names.proofs.is_dotted.Goals as goal

pub returns-then-s-eq0 : goal.returns-then-s-eq0
returns-then-s-eq0 c = search dotted_laws

pub returns-then-s-gt-NAME_LIMIT : goal.returns-then-s-gt-NAME_LIMIT
returns-then-s-gt-NAME_LIMIT c = search dotted_laws

pub returns-then-s : goal.returns-then-s
returns-then-s c = search dotted_laws

pub returns-then-class-barred-ne0 : goal.returns-then-class-barred-ne0
returns-then-class-barred-ne0 c = search dotted_laws

pub returns : goal.returns
returns c = search dotted_laws
