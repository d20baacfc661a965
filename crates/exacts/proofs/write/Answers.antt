-- `exacts::write` meets its contract.
use Rattle.exacts.proofs.Writing.{written_back, writing}
use Rattle.exacts.proofs.write.Goals as goal

pub put_front-requires : goal.put_front-requires
put_front-requires c = search writing

pub word-requires : goal.word-requires
word-requires c = search writing

pub put_owns-at-requires : goal.put_owns-at-requires
put_owns-at-requires c = search writing

pub put_back-requires : goal.put_back-requires
put_back-requires c = search (written_back c.requires c.put_owns-at.ensures)

pub shape_of-room : goal.shape_of-room
shape_of-room c = search writing

pub returns : goal.returns
returns c = search writing
