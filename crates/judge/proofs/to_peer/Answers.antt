-- `judge::to_peer` meets its contract.
use Rattle.judge.proofs.Peers.{to_peer_lem}
use Rattle.judge.proofs.to_peer.Goals as goal

pub may-sends-requires : goal.may-sends-requires
may-sends-requires c = search to_peer_lem

pub refused-requires : goal.refused-requires
refused-requires c = search to_peer_lem

pub judged_by-requires : goal.judged_by-requires
judged_by-requires c = search to_peer_lem

pub shape_of-memory-then-not-sends : goal.shape_of-memory-then-not-sends
shape_of-memory-then-not-sends c = search to_peer_lem

pub returns-then-not-sends : goal.returns-then-not-sends
returns-then-not-sends c = search to_peer_lem

pub may-receives-requires : goal.may-receives-requires
may-receives-requires c = search to_peer_lem

pub refused-requires-then-not-receives : goal.refused-requires-then-not-receives
refused-requires-then-not-receives c = search to_peer_lem

pub judged_by-requires-then-not-receives : goal.judged_by-requires-then-not-receives
judged_by-requires-then-not-receives c = search to_peer_lem

pub shape_of-memory-then-not-receives : goal.shape_of-memory-then-not-receives
shape_of-memory-then-not-receives c = search to_peer_lem

pub returns-then-not-receives : goal.returns-then-not-receives
returns-then-not-receives c = search to_peer_lem

pub deliver-requires : goal.deliver-requires
deliver-requires c = search to_peer_lem

pub judged_by-requires-2 : goal.judged_by-requires-2
judged_by-requires-2 c = search to_peer_lem

pub shape_of-memory : goal.shape_of-memory
shape_of-memory c = search to_peer_lem

pub returns : goal.returns
returns c = search to_peer_lem
