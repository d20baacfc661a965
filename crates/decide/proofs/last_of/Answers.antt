-- `decide::last_of` meets its contract.
use Rattle.std.proofs.Common.{rules, ◌≡◌, ◌-◌, false, true, refl, sym, arith, ◌∙◌}
use Rattle.decide.proofs.Down.{left_begins, left_over, left_more, left_found, stands_below, room_below, here, below, counted}
use Rattle.decide.proofs.last_of.Goals as goal
use Rattle.decide.proofs.last_of.Goals.{else-image-at-via-then-image-at+else-fits, else-image-at-via-else-image-at}

pub loop-at-init : goal.loop-at-init
loop-at-init g c = left_begins _ _ _ _ c.offset-from.ensures.0 c.size-size.ensures c.count.ensures

pub overflow_sub-at : goal.overflow_sub-at
overflow_sub-at g c = room_below c.loop-at.invariant c.offset-from.ensures.0 c.loop-at-test.true c.size-size.ensures

pub bounds-image-at : goal.bounds-image-at
bounds-image-at g c =
    let h = stands_below c.loop-at.invariant c.offset-from.ensures.0 c.loop-at-test.true c.size-size.ensures c.requires.0 in
    omega (arith, here c.loop-at.invariant c.offset-from.ensures.0 c.loop-at-test.true c.size-size.ensures, h.room, h.wide)

pub fits-requires : goal.fits-requires
fits-requires g c =
    rw (← here c.loop-at.invariant c.offset-from.ensures.0 c.loop-at-test.true c.size-size.ensures)
    (c.requires.1 _ (below c.loop-at.invariant c.offset-from.ensures.0 c.loop-at-test.true c.size-size.ensures))

pub overflow_sub-result : goal.overflow_sub-result
overflow_sub-result g c = omega (arith, here c.loop-at.invariant c.offset-from.ensures.0 c.loop-at-test.true c.size-size.ensures, c.offset-from.ensures.0)

pub returns-then-fits-clause-inside : goal.returns-then-fits-clause-inside
returns-then-fits-clause-inside g c =
    rw (counted c.loop-at.invariant c.offset-from.ensures.0 c.loop-at-test.true c.size-size.ensures)
    (below c.loop-at.invariant c.offset-from.ensures.0 c.loop-at-test.true c.size-size.ensures)

pub returns-then-fits-clause-last : goal.returns-then-fits-clause-last
returns-then-fits-clause-last g c =
    left_found c.loop-at.invariant c.offset-from.ensures.0 c.loop-at-test.true c.size-size.ensures c.if-image-at.true c.fits.ensures c.if-fits.true

pub loop-at-preserved : goal.loop-at-preserved
loop-at-preserved g c =
    left_more c.loop-at.invariant c.offset-from.ensures.0 c.loop-at-test.true c.size-size.ensures
    (λ e. elim c.else-image-at.branch [
      | else-image-at-via-then-image-at+else-fits w ↦ (w.fits.result, w.fits.ensures, w.if-fits.false)
      | else-image-at-via-else-image-at w ↦ absurd (w.if-image-at.false e)
    ])

pub returns-clause-last : goal.returns-clause-last
returns-clause-last g c = left_over c.loop-at.invariant c.offset-from.ensures.0 c.loop-at-test.false
