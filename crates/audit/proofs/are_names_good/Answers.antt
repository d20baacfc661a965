-- `audit::are_names_good` meets its contract.
use Rattle.audit.proofs.Names.{naming}
use Rattle.audit.proofs.are_names_good.Goals as goal

pub returns-then-not-is_name_good : goal.returns-then-not-is_name_good
returns-then-not-is_name_good c = search naming

pub loop-j-preserved : goal.loop-j-preserved
loop-j-preserved c = search naming

pub returns : goal.returns
returns c = search naming
