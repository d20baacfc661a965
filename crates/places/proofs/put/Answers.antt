use Rattle.std.proofs.Common.{rules}
use Rattle.places.proofs.Rooms.{place_put}
use Rattle.places.proofs.put.Goals as goal

pub returns : goal.returns
returns c = search (place_put, rules)
