-- `waits::reply_to` meets its contract.
use Rattle.waits.proofs.Waits.{replying_to}
use Rattle.waits.proofs.reply_to.Goals as goal

pub returns-in_default : goal.returns-in_default
returns-in_default c = search replying_to

pub end_call-requires : goal.end_call-requires
end_call-requires c = search (replying_to, c.in-Some.ensures)

pub returns : goal.returns
returns c = search (replying_to, c.in-Some.ensures)
