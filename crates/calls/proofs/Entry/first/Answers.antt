use Rattle.calls.proofs.Entries.{sizes}
use Rattle.calls.proofs.Entry.first.Goals as goal

pub returns-then-script-lt8-clause-broken : goal.returns-then-script-lt8-clause-broken
returns-then-script-lt8-clause-broken c = search sizes

pub returns-in_err-kind-clause-broken : goal.returns-in_err-kind-clause-broken
returns-in_err-kind-clause-broken c = search sizes

pub returns-then-not-takes-clause-broken : goal.returns-then-not-takes-clause-broken
returns-then-not-takes-clause-broken c = search sizes

pub returns-then-script-argument-clause-broken : goal.returns-then-script-argument-clause-broken
returns-then-script-argument-clause-broken c = search sizes
