-- Each turn offers some of what is left.
use Rattle.replay.proofs.session.Session.feed.Given as goal

abbrev pub decreases-loop-bytes : goal.decreases-loop-bytes
decreases-loop-bytes g l = l.left
