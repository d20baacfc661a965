-- `decide::transact` meets its contract.
use Rattle.std.proofs.Common.{rules}
use Rattle.policy.specs.Names.{names_in}
use Rattle.policy.specs.Matching.{message_of}
use Rattle.policy.specs.Decisions.{transaction_hits, transaction_decision}
use Rattle.decide.proofs.Down.{rule_asked}
use Rattle.decide.proofs.transact.Goals as goal

pub search-requires : goal.search-requires
search-requires c = search (rule_asked, rules)

pub returns : goal.returns
unfolding transaction_decision
returns c =
    c.search.ensures
    (transaction_hits c.args.image.now c.args.direction c.args.uid c.args.gids.now (names_in c.args.names.now) (message_of c.args.head.now c.args.header))
    (λ i l r e. search rules)
