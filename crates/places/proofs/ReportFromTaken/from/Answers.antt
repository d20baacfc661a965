use Rattle.std.proofs.Common.{rules}
use Rattle.places.proofs.Numbers.{shows_taken}
use Rattle.places.proofs.ReportFromTaken.from.Goals as goal

pub returns : goal.returns
returns c = search (shows_taken, rules)
