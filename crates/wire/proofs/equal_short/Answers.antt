-- `wire::equal_short` meets its contract.
use Rattle.std.proofs.Common.{◌∙◌}
use Rattle.wire.proofs.Texts.{pointwise_same}
use Rattle.wire.proofs.Loads.{words}
use Rattle.wire.proofs.equal_short.Goals as goal

pub returns-then-n-lt4 : goal.returns-then-n-lt4
returns-then-n-lt4 c = c.eq.ensures ∙ pointwise_same c.args.a.now c.args.b.now

pub returns : goal.returns
returns c = search words
