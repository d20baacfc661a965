-- A state seen as another: each stream through a function, and all else as it is (rule 12.1).
use Rattle.std.specs.Prelude.{map}
use Rattle.rules.specs.State.{Slot, free, peer, Peer, State}
use Rattle.rules.specs.Judge.{Judged}
use Rattle.rules.specs.Calls.{Step}

module _ {A B : Type 0} (f : A → B) where
  abbrev pub seen_peer : Peer A → Peer B
  seen_peer p = record { number = p.number; uid = p.uid; gids = p.gids; pending = p.pending; names = p.names; stream = f p.stream }

  abbrev pub seen_slot : Slot A → Slot B
  seen_slot free = free
  seen_slot (peer p) = peer (seen_peer p)

  abbrev pub seen : State A → State B
  seen s = record { last = s.last; tick = s.tick; slots = map seen_slot s.slots }

  abbrev pub seen_judged : Judged A → Judged B
  seen_judged j = record { judgement = j.judgement; state = seen j.state }

  abbrev pub seen_step : {R : Type 0} → Step A R → Step B R
  seen_step s = record { state = seen s.state; result = s.result }
