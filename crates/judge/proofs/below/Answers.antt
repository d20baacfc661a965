-- `judge::below` meets its contract.
use Rattle.judge.proofs.Everybody.{one_more_lem}
use Rattle.judge.proofs.below.Goals as goal

pub overflow_mul-result : goal.overflow_mul-result
overflow_mul-result c = search one_more_lem

pub overflow_add-result : goal.overflow_add-result
overflow_add-result c = search one_more_lem

pub overflow_mul-result-else-reached : goal.overflow_mul-result-else-reached
overflow_mul-result-else-reached c = search one_more_lem

pub returns-then-reached : goal.returns-then-reached
returns-then-reached c = search one_more_lem

pub returns-else-reached : goal.returns-else-reached
returns-else-reached c = search one_more_lem
