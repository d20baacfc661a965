-- `endings::end_all` meets its contract.
use Rattle.endings.specs.Endings.{test_of}
use Rattle.std.proofs.Common.{rules}
use Rattle.endings.proofs.end_all.Goals as goal

pub end_where-requires-clause-test : goal.end_where-requires-clause-test
end_where-requires-clause-test c = (test_of c.args.which, λ w a b r p. search rules)

pub end_where-requires-in-Aged-clause-test : goal.end_where-requires-in-Aged-clause-test
end_where-requires-in-Aged-clause-test c = (test_of c.args.which, λ w a b r p. search rules)
