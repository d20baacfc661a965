use Rattle.std.proofs.Common.{rules}
use Rattle.places.proofs.Numbers.{shows_connected}
use Rattle.places.proofs.ReportFromConnected.from.Goals as goal

pub returns : goal.returns
returns c = search (shows_connected, rules)
