-- The cycle {list, one}: each way through the two functions is one of the grammar.
use Rattle.signature.proofs.Grammar.{found, plain, array, other, dict, dict_bad, paren, paren_bad, going_bad, going_on, ways}
use Rattle.signature.proofs.+list_one.Goals as goal

pub list-loop-end-preserved-then-is_basic-b : goal.list-loop-end-preserved-then-is_basic-b
list-loop-end-preserved-then-is_basic-b t c = search ways

pub list-returns-then-b : goal.list-returns-then-b
list-returns-then-b t c = search ways

pub list-returns-in_err-end : goal.list-returns-in_err-end
list-returns-in_err-end t c =
    going_bad c.loop-end.invariant c.loop-end-test.true c.if-b.false c.one.ensures c.in_err-end.was c.from_residual.ensures

pub list-loop-end-preserved : goal.list-loop-end-preserved
list-loop-end-preserved t c = going_on c.loop-end.invariant c.loop-end-test.true c.if-b.false c.one.ensures c.in_ok-end.was

pub list-returns : goal.list-returns
list-returns t c = search ways

pub one-returns-in_err-head_at : goal.one-returns-in_err-head_at
one-returns-in_err-head_at t c = other c.head_at.ensures c.in_err-head_at.was c.from_residual.ensures

pub one-returns-in_err-row-in-Dict : goal.one-returns-in_err-row-in-Dict
one-returns-in_err-row-in-Dict t c = dict_bad c.head_at.ensures (found c.in_ok-head_at.was c.in-Dict.is) c.list.ensures c.in_err-row-in-Dict.was c.from_residual-in_err-row-in-Dict.ensures

pub one-returns-in_err-row-in-Paren : goal.one-returns-in_err-row-in-Paren
one-returns-in_err-row-in-Paren t c = paren_bad c.head_at.ensures (found c.in_ok-head_at.was c.in-Paren.is) c.list-in-Paren.ensures c.in_err-row-in-Paren.was c.from_residual-in_err-row-in-Paren.ensures

pub one-returns-in-Plain : goal.one-returns-in-Plain
one-returns-in-Plain t c = plain c.head_at.ensures (found c.in_ok-head_at.was c.in-Plain.is)

pub one-returns-in-Array : goal.one-returns-in-Array
one-returns-in-Array t c = array c.head_at.ensures (found c.in_ok-head_at.was c.in-Array.is) c.one.ensures

pub one-returns-in_ok-row-in-Dict : goal.one-returns-in_ok-row-in-Dict
one-returns-in_ok-row-in-Dict t c =
    dict c.head_at.ensures (found c.in_ok-head_at.was c.in-Dict.is) c.list.ensures c.in_ok-row-in-Dict.was c.close.ensures.is c.close.ensures.fits

pub one-returns-in_ok-row-in-Paren : goal.one-returns-in_ok-row-in-Paren
one-returns-in_ok-row-in-Paren t c =
    paren c.head_at.ensures (found c.in_ok-head_at.was c.in-Paren.is) c.list-in-Paren.ensures c.in_ok-row-in-Paren.was c.close-in-Paren.ensures.is c.close-in-Paren.ensures.fits
