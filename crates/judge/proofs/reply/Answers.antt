-- `judge::reply` meets its contract.
use Rattle.judge.proofs.Whole.{replying}
use Rattle.judge.proofs.reply.Goals as goal

pub reply_to-requires : goal.reply_to-requires
reply_to-requires c = search replying

pub refused-requires : goal.refused-requires
refused-requires c = search replying

pub returns-in-At : goal.returns-in-At
returns-in-At c = search replying

pub returns-in-Absent : goal.returns-in-Absent
returns-in-Absent c = search replying
