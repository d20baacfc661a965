-- `utf8::is_tail` meets its contract.
use Rattle.utf8.proofs.Characters.{Trailing}
use Rattle.utf8.proofs.is_tail.Given as goal

abbrev pub invariant-loop-i : goal.invariant-loop-i
invariant-loop-i l = Trailing l.s l.at l.fn.lead.due l.fn.lead.low l.fn.lead.high l.good l.low l.high l.i
