-- `matching::name_fits` meets its contract.
use Rattle.std.proofs.Common.{rules, ◌≡◌, ◌∙◌}
use Rattle.std.specs.Slice.Iter.{chunks_exact_rest, chunks_exact_size}
use Rattle.policy.specs.Names.{name_width}
use Rattle.matching.proofs.Names.{name_any, seeking_begins, seeking_ends, seeking_here, seeking_more}
use Rattle.matching.proofs.name_fits.Goals as goal

pub returns-then-name-eq0 : goal.returns-then-name-eq0
returns-then-name-eq0 c = name_any c.args.at c.args.names.now c.requires c.text-name.ensures c.if-name-eq0.true

pub loop-cell-init : goal.loop-cell-init
loop-cell-init c =
    let e : chunks_exact_rest c.into_iter-cell-iterator.result ≡ c.args.names.now = search rules in
    record {
      sized = search rules;
      seeking = rw e (seeking_begins c.args.at c.args.names.now c.requires c.text-name.ensures c.if-name-eq0.false);
    }

pub returns-then-cell_holds : goal.returns-then-cell_holds
returns-then-cell_holds c =
    let k = c.in-Some.ensures.steps in
    seeking_here c.loop-cell.invariant.seeking c.in-Some.cell.now (chunks_exact_rest c.next.new.self) k.1.0 (k.1.1 ∙ c.loop-cell.invariant.sized)
    c.cell_holds.ensures.byte c.cell_holds.ensures.holds c.if-cell_holds.true

pub loop-cell-preserved : goal.loop-cell-preserved
loop-cell-preserved c =
    let k = c.in-Some.ensures.steps in
    record {
      sized = k.0 ∙ c.loop-cell.invariant.sized;
      seeking =
          seeking_more c.loop-cell.invariant.seeking c.in-Some.cell.now (chunks_exact_rest c.next.new.self) k.1.0 (k.1.1 ∙ c.loop-cell.invariant.sized)
          c.cell_holds.ensures.byte c.cell_holds.ensures.holds c.if-cell_holds.false;
    }

pub returns : goal.returns
returns c = seeking_ends c.loop-cell.invariant.seeking (rw c.loop-cell.invariant.sized at c.in-None.ensures.steps.1.0)
