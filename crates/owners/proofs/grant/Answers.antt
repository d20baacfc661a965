-- `owners::grant` meets its contract.
use Rattle.owners.proofs.Owning.{granting}
use Rattle.owners.proofs.grant.Goals as goal

pub word_at-n-requires : goal.word_at-n-requires
word_at-n-requires c = search granting

pub shape_of-memory-then-n-ge4 : goal.shape_of-memory-then-n-ge4
shape_of-memory-then-n-ge4 c = search granting

pub returns-then-n-ge4 : goal.returns-then-n-ge4
returns-then-n-ge4 c = search granting

pub overflow_mul-i : goal.overflow_mul-i
overflow_mul-i c = search granting

pub overflow_add-i : goal.overflow_add-i
overflow_add-i c = search granting

pub overflow_add-i-2 : goal.overflow_add-i-2
overflow_add-i-2 c = search granting

pub overflow_cast-n : goal.overflow_cast-n
overflow_cast-n c = search granting

pub overflow_mul-n : goal.overflow_mul-n
overflow_mul-n c = search granting

pub overflow_add-i-3 : goal.overflow_add-i-3
overflow_add-i-3 c = search granting

pub put_name-requires : goal.put_name-requires
put_name-requires c = search granting

pub overflow_mul-i-2 : goal.overflow_mul-i-2
overflow_mul-i-2 c = search granting

pub overflow_add-i-4 : goal.overflow_add-i-4
overflow_add-i-4 c = search granting

pub overflow_add-i-5 : goal.overflow_add-i-5
overflow_add-i-5 c = search granting

pub overflow_add-n : goal.overflow_add-n
overflow_add-n c = search granting

pub put_u32-requires : goal.put_u32-requires
put_u32-requires c = search granting

pub shape_of-memory : goal.shape_of-memory
shape_of-memory c = search granting

pub returns : goal.returns
returns c = search granting
