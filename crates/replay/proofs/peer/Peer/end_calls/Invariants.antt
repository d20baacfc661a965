-- No more calls are kept than were looked at.
use Rattle.std.proofs.Common.{◌≤◌}
use Rattle.replay.proofs.peer.Peer.end_calls.Given as goal

abbrev pub invariant-loop-i : goal.invariant-loop-i
invariant-loop-i g l = l.kept ≤ l.i
