-- `utf8::is_ascii_block` meets its contract.
use Rattle.std.proofs.Common.{◌≡◌}
use Rattle.utf8.specs.Scan.{asciis}
use Rattle.utf8.proofs.is_ascii_block.Given as goal

abbrev pub invariant-loop-i : goal.invariant-loop-i
invariant-loop-i l = l.good ≡ asciis l.s l.at l.i
