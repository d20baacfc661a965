-- Each turn uses some of what is left.
use Rattle.replay.proofs.capture.Capture.skip.Given as goal

abbrev pub decreases-loop-left : goal.decreases-loop-left
decreases-loop-left l = l.left
