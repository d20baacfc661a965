-- `judge::to_bus` meets its contract.
use Rattle.judge.proofs.Policy.{to_bus_lem}
use Rattle.judge.proofs.to_bus.Goals as goal

pub bus_cell-cell-requires : goal.bus_cell-cell-requires
bus_cell-cell-requires c = search to_bus_lem

pub slice_bounds-ask_peer-end : goal.slice_bounds-ask_peer-end
slice_bounds-ask_peer-end c = search to_bus_lem

pub ask_peer-sends-requires : goal.ask_peer-sends-requires
ask_peer-sends-requires c = search to_bus_lem

pub refused-requires : goal.refused-requires
refused-requires c = search to_bus_lem

pub judged_by-requires : goal.judged_by-requires
judged_by-requires c = search to_bus_lem

pub returns-then-not-sends : goal.returns-then-not-sends
returns-then-not-sends c = search to_bus_lem

pub returns : goal.returns
returns c = search to_bus_lem
