-- `exacts::put_header` meets its contract.
use Rattle.exacts.proofs.Headers.{heading}
use Rattle.exacts.proofs.put_header.Goals as goal

pub word-requires : goal.word-requires
word-requires c = search heading

pub overflow_mul-transactions : goal.overflow_mul-transactions
overflow_mul-transactions c = search heading

pub overflow_add-transactions : goal.overflow_add-transactions
overflow_add-transactions c = search heading

pub word-requires-2 : goal.word-requires-2
word-requires-2 c = search heading

pub overflow_mul-strings : goal.overflow_mul-strings
overflow_mul-strings c = search heading

pub overflow_add-strings : goal.overflow_add-strings
overflow_add-strings c = search heading

pub overflow_cast-words : goal.overflow_cast-words
overflow_cast-words c = search heading

pub word-requires-3 : goal.word-requires-3
word-requires-3 c = search heading

pub overflow_cast-words-2 : goal.overflow_cast-words-2
overflow_cast-words-2 c = search heading

pub overflow_cast-words-3 : goal.overflow_cast-words-3
overflow_cast-words-3 c = search heading

pub overflow_cast-words-4 : goal.overflow_cast-words-4
overflow_cast-words-4 c = search heading

pub word-requires-4 : goal.word-requires-4
word-requires-4 c = search heading

pub overflow_cast-words-5 : goal.overflow_cast-words-5
overflow_cast-words-5 c = search heading

pub word-requires-5 : goal.word-requires-5
word-requires-5 c = search heading

pub overflow_cast-words-6 : goal.overflow_cast-words-6
overflow_cast-words-6 c = search heading

pub overflow_cast-words-7 : goal.overflow_cast-words-7
overflow_cast-words-7 c = search heading

pub overflow_cast-words-8 : goal.overflow_cast-words-8
overflow_cast-words-8 c = search heading

pub slice_bounds-put_words-end : goal.slice_bounds-put_words-end
slice_bounds-put_words-end c = search heading

pub put_words-requires : goal.put_words-requires
put_words-requires c = search heading

pub shape_of-room : goal.shape_of-room
shape_of-room c = search heading

pub returns : goal.returns
returns c = search heading
