-- `judge::reaches` meets its contract.
use Rattle.judge.proofs.Policy.{reaching}
use Rattle.judge.proofs.reaches.Goals as goal

pub number_at-requires : goal.number_at-requires
number_at-requires c = search reaching

pub returns-then-number_at-eq0 : goal.returns-then-number_at-eq0
returns-then-number_at-eq0 c = search reaching

pub may-sends-requires : goal.may-sends-requires
may-sends-requires c = search reaching

pub returns-then-not-sends : goal.returns-then-not-sends
returns-then-not-sends c = search reaching

pub may-receives-requires : goal.may-receives-requires
may-receives-requires c = search reaching

pub returns : goal.returns
returns c = search reaching
