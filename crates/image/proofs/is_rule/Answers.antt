-- `image::is_rule` meets its contract.
use Rattle.image.proofs.Ways.{asked}
use Rattle.image.proofs.is_rule.Goals as goal

pub enum_told-1 : goal.enum_told-1
enum_told-1 c = search asked

pub is_connect-requires : goal.is_connect-requires
is_connect-requires c = search asked

pub enum_told-in-Own : goal.enum_told-in-Own
enum_told-in-Own c = search asked

pub is_own-requires : goal.is_own-requires
is_own-requires c = search asked

pub enum_told-in-Transaction : goal.enum_told-in-Transaction
enum_told-in-Transaction c = search asked

pub is_transaction-requires : goal.is_transaction-requires
is_transaction-requires c = search asked

pub returns-in-Connect : goal.returns-in-Connect
returns-in-Connect c = search asked

pub returns-in-Own : goal.returns-in-Own
returns-in-Own c = search asked

pub returns-in-Transaction : goal.returns-in-Transaction
returns-in-Transaction c = search asked
