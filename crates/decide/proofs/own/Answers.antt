-- `decide::own` meets its contract.
use Rattle.std.proofs.Common.{rules}
use Rattle.policy.specs.Decisions.{own_hits, own_decision}
use Rattle.decide.proofs.Down.{own_at}
use Rattle.decide.proofs.own.Goals as goal

pub search-requires : goal.search-requires
search-requires c = search (own_at, rules)

pub returns : goal.returns
unfolding own_decision
returns c = c.search.ensures (own_hits c.args.image.now c.args.uid c.args.gids.now c.args.name.now) (λ i l r e. search rules)
