-- `bench_calls::bench_decide` meets its contract.
use Rattle.bench_calls.proofs.Tested.{testing}
use Rattle.bench_calls.proofs.bench_decide.Goals as goal

pub transact-requires : goal.transact-requires
transact-requires c = search testing
