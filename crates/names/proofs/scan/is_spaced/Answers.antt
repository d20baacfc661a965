-- `names::scan::is_spaced` meets its contract.
use Rattle.std.proofs.Common.{◌≡◌, refl, not, ◌&&◌, ◌||◌, ℕ, leb, eqb}
use Rattle.wire.specs.Bytes.{byte}
use Rattle.names.specs.Scan.{spaced}
use Rattle.names.proofs.scan.is_spaced.Goals as goal

tests : (high p b : ℕ) → not ((eqb p (byte ".") || eqb p (byte "/")) && (leb (byte ".") b && leb b high)) ≡ spaced high p b
unfolding spaced
tests high p b = refl

pub returns : goal.returns
returns c = search tests
