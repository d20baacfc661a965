-- `image::is_transaction` meets its contract.
use Rattle.image.proofs.Ways.{transaction_bad, transaction_is}
use Rattle.image.proofs.is_transaction.Goals as goal

pub returns-then-is_subject-image : goal.returns-then-is_subject-image
returns-then-is_subject-image c = search transaction_is

pub returns-else-is_subject-image : goal.returns-else-is_subject-image
returns-else-is_subject-image c = search transaction_bad
