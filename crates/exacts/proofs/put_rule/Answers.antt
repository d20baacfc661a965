use Rattle.exacts.proofs.Becoming.{becoming}
use Rattle.exacts.proofs.put_rule.Goals as goal

pub text-prefix-requires : goal.text-prefix-requires
text-prefix-requires c = search becoming

pub put_exacts-requires : goal.put_exacts-requires
put_exacts-requires c = search becoming

pub slice_bounds-copy-end : goal.slice_bounds-copy-end
slice_bounds-copy-end c = search becoming

pub returns-then-rule-eq-PREFIX : goal.returns-then-rule-eq-PREFIX
returns-then-rule-eq-PREFIX c = search becoming

pub returns-else-rule-eq-PREFIX : goal.returns-else-rule-eq-PREFIX
returns-else-rule-eq-PREFIX c = search becoming
