use Rattle.guard.proofs.Tested.{testing}
use Rattle.guard.proofs.test.Goals as goal

pub returns-in-Good : goal.returns-in-Good
returns-in-Good c = search testing

pub returns-in-Bad : goal.returns-in-Bad
returns-in-Bad c = search testing
