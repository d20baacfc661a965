-- The cycle {items, step_at, typed, value}: each way through the four functions is one of the walk.
use Rattle.std.proofs.Common.{arith, rules}
use Rattle.variant.proofs.Begins.{taken, step_ill}
use Rattle.variant.proofs.Walking.{told, listing, steps, step_letter, typing, going, row_inside, going_row_in, letter_inside}
use Rattle.variant.proofs.Widths.{items_numbers}
use Rattle.variant.proofs.+items_step_at_typed_value.Goals as goal

pub items-returns-then-k-ne0 : goal.items-returns-then-k-ne0
items-returns-then-k-ne0 t c = search items_numbers

pub items-returns-in_err-p : goal.items-returns-in_err-p
items-returns-in_err-p t c = search (listing, c.in_err-p.was)

pub items-loop-p-smaller : goal.items-loop-p-smaller
items-loop-p-smaller t c = search (listing, c.in_ok-p.was)

pub items-loop-p-preserved : goal.items-loop-p-preserved
items-loop-p-preserved t c = search (listing, c.in_ok-p.was)

pub items-returns : goal.items-returns
items-returns t c = search listing

pub step_at-returns-in_err-stop : goal.step_at-returns-in_err-stop
step_at-returns-in_err-stop t c = search (steps, c.in_err-stop.was)

pub step_at-returns-in_err-next-in-Array : goal.step_at-returns-in_err-next-in-Array
step_at-returns-in_err-next-in-Array t c = search (steps, taken, told c.in_ok-stop.was c.in-Array.is, c.in_err-next-in-Array.was)

pub step_at-returns-then-not-is_letter : goal.step_at-returns-then-not-is_letter
step_at-returns-then-not-is_letter t c = search (steps, told c.in_ok-stop.was c.in-Variant.is)

pub step_at-value-requires : goal.step_at-value-requires
step_at-value-requires t c = search (steps, told c.in_ok-stop.was c.in-Variant.is)

pub step_at-returns-in_err-next-in-Variant : goal.step_at-returns-in_err-next-in-Variant
step_at-returns-in_err-next-in-Variant t c =
    rw c.from_residual-in_err-next-in-Variant.ensures
    (step_letter c.begin_at.ensures (told c.in_ok-stop.was c.in-Variant.is) (omega arith) c.is_letter.ensures (search rules) c.value.ensures
    (step_ill c.in_err-next-in-Variant.was))

pub step_at-returns-then-stop-from : goal.step_at-returns-then-stop-from
step_at-returns-then-stop-from t c = search (steps, taken, told c.in_ok-stop.was c.in-Variant.is, c.in_ok-next-in-Variant.was)

pub step_at-returns-in_err-next-in-Variant-2 : goal.step_at-returns-in_err-next-in-Variant-2
step_at-returns-in_err-next-in-Variant-2 t c = search (steps, taken, told c.in_ok-stop.was c.in-Variant.is, c.in_err-next-in-Variant-2.was)

pub step_at-returns-in-Done : goal.step_at-returns-in-Done
step_at-returns-in-Done t c = search (steps, told c.in_ok-stop.was c.in-Done.is)

pub step_at-returns-in_ok-next-in-Array : goal.step_at-returns-in_ok-next-in-Array
step_at-returns-in_ok-next-in-Array t c = search (steps, taken, told c.in_ok-stop.was c.in-Array.is, c.in_ok-next-in-Array.was)

pub step_at-returns-in_ok-next-in-Variant-2 : goal.step_at-returns-in_ok-next-in-Variant-2
step_at-returns-in_ok-next-in-Variant-2 t c = search (steps, taken, told c.in_ok-stop.was c.in-Variant.is, c.in_ok-next-in-Variant-2.was)

pub typed-returns-then-sig-gt255 : goal.typed-returns-then-sig-gt255
typed-returns-then-sig-gt255 t c = search typing

pub value-loop-start-init : goal.value-loop-start-init
value-loop-start-init t c = search going

pub value-overflow_add-j : goal.value-overflow_add-j
value-overflow_add-j t c = omega (arith, row_inside c.loop-start.invariant c.step_at.ensures (told c.in_ok-start.was c.in-Row.is))

pub value-overflow_add-rows : goal.value-overflow_add-rows
value-overflow_add-rows t c =
    omega (arith, going_row_in c.loop-start.invariant c.step_at.ensures (told c.in_ok-start.was c.in-Row.is) c.openings-to.ensures)

pub value-overflow_add-depth-in-Row : goal.value-overflow_add-depth-in-Row
value-overflow_add-depth-in-Row t c =
    omega (arith, going_row_in c.loop-start.invariant c.step_at.ensures (told c.in_ok-start.was c.in-Row.is) c.openings-to.ensures)

pub value-returns-then-depth-rows-gt-OPEN_LIMIT : goal.value-returns-then-depth-rows-gt-OPEN_LIMIT
value-returns-then-depth-rows-gt-OPEN_LIMIT t c = search (going, told c.in_ok-start.was c.in-Row.is)

pub value-loop-start-smaller-in-Row : goal.value-loop-start-smaller-in-Row
value-loop-start-smaller-in-Row t c = search (going, told c.in_ok-start.was c.in-Row.is)

pub value-loop-start-preserved-in-Row : goal.value-loop-start-preserved-in-Row
value-loop-start-preserved-in-Row t c = search (going, told c.in_ok-start.was c.in-Row.is)

pub value-hop-end-requires : goal.value-hop-end-requires
value-hop-end-requires t c =
    let l = letter_inside c.loop-start.invariant c.step_at.ensures (told c.in_ok-start.was c.in-At.is) in
    (search rules, l.0, l.1)

pub value-returns-then-rows-to : goal.value-returns-then-rows-to
value-returns-then-rows-to t c = search (going, told c.in_ok-start.was c.in-At.is)

pub value-loop-start-preserved : goal.value-loop-start-preserved
value-loop-start-preserved t c = search (going, told c.in_ok-start.was c.in-At.is)
