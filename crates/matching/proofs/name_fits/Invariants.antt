-- `matching::name_fits` meets its contract. The loop's invariant: the rule's name is one of the names if it is in the cells that are left.
use Rattle.std.proofs.Common.{◌≡◌}
use Rattle.std.specs.Slice.Iter.{chunks_exact_rest, chunks_exact_size}
use Rattle.policy.specs.Names.{name_width}
use Rattle.matching.proofs.Names.{Seeking}
use Rattle.matching.proofs.name_fits.Given as goal

abbrev pub invariant-loop-cell : goal.invariant-loop-cell
invariant-loop-cell l =
    record {
      sized : chunks_exact_size l.cell-iterator ≡ name_width;
      seeking : Seeking l.image l.at l.names l.name (chunks_exact_rest l.cell-iterator);
    }
