-- `utf8::past_characters` meets its contract.
use Rattle.std.proofs.Common.{◌-◌, length}
use Rattle.utf8.proofs.Characters.{Passing}
use Rattle.utf8.proofs.past_characters.Given as goal

abbrev pub invariant-loop-i : goal.invariant-loop-i
invariant-loop-i l = Passing l.s l.from l.to l.i

abbrev pub decreases-loop-i : goal.decreases-loop-i
decreases-loop-i l = length l.s - l.i
