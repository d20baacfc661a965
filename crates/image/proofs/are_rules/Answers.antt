-- `image::are_rules` meets its contract.
use Rattle.std.proofs.Common.{rules, ◌≡◌, true, false}
use Rattle.std.proofs.lemmas.Iterator.{cases_from_all}
use Rattle.image.specs.Image.{rule_count}
use Rattle.image.specs.Good.{good_rule}
use Rattle.image.proofs.Every.{yields_down, below_is}
use Rattle.image.proofs.are_rules.Goals as goal

pub returns : goal.returns
returns c =
    below_is (good_rule c.args.section c.args.image.now) (rule_count c.args.section c.args.image.now) c.all.result
    (cases_from_all _ _ _ (λ i. good_rule c.args.section c.args.image.now i ≡ true) (λ i. good_rule c.args.section c.args.image.now i ≡ false) c.all.ensures.ran
    (yields_down (rule_count c.args.section c.args.image.now) (search rules))
    (λ x q k. search rules) (λ x q k. search rules))
