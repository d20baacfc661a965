-- `retire::covers` meets its contract.
use Rattle.retire.proofs.Covered.{one_rule}
use Rattle.retire.proofs.covers.Goals as goal

pub overflow_add-at : goal.overflow_add-at
overflow_add-at c = search one_rule

pub bounds-image-at : goal.bounds-image-at
bounds-image-at c = search one_rule

pub overflow_add-at-then-image-at-eq-PREFIX : goal.overflow_add-at-then-image-at-eq-PREFIX
overflow_add-at-then-image-at-eq-PREFIX c = search one_rule

pub text-requires : goal.text-requires
text-requires c = search one_rule

pub in_namespace-requires : goal.in_namespace-requires
in_namespace-requires c = search one_rule

pub returns-then-image-at-eq-PREFIX : goal.returns-then-image-at-eq-PREFIX
returns-then-image-at-eq-PREFIX c = search one_rule

pub returns-else-image-at-eq-PREFIX : goal.returns-else-image-at-eq-PREFIX
returns-else-image-at-eq-PREFIX c = search one_rule
