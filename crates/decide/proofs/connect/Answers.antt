-- `decide::connect` meets its contract.
use Rattle.std.proofs.Common.{rules}
use Rattle.policy.specs.Decisions.{connect_hits, connect_decision}
use Rattle.decide.proofs.connect.Goals as goal

pub returns : goal.returns
unfolding connect_decision
returns c = c.search.ensures (connect_hits c.args.image.now c.args.uid c.args.gids.now) (λ i l r e. search rules)
