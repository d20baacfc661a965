-- `bench_calls::bench_header_read` meets its contract.
use Rattle.bench_calls.proofs.Tested.{reading}
use Rattle.bench_calls.proofs.bench_header_read.Goals as goal

pub read-requires : goal.read-requires
read-requires c = search reading

pub returns-in-Err-Short : goal.returns-in-Err-Short
returns-in-Err-Short c = search reading

pub returns-in-Err-Broken : goal.returns-in-Err-Broken
returns-in-Err-Broken c = search reading

pub returns-in-Ok : goal.returns-in-Ok
returns-in-Ok c = search reading
