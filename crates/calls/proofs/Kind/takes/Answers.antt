use Rattle.calls.proofs.Entries.{sized_peer, kinds}
use Rattle.calls.proofs.Kind.takes.Goals as goal

pub returns-in-Start : goal.returns-in-Start
returns-in-Start c = search kinds

pub returns-in-Connect : goal.returns-in-Connect
returns-in-Connect c = search kinds

pub returns-in-Own : goal.returns-in-Own
returns-in-Own c = sized_peer c.args.self c.args.n c.in-Own.is

pub returns-in-Disconnect : goal.returns-in-Disconnect
returns-in-Disconnect c = search kinds

pub returns-in-Tick : goal.returns-in-Tick
returns-in-Tick c = search kinds
