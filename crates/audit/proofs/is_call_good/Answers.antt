-- `audit::is_call_good` meets its contract.
use Rattle.audit.proofs.Calls.{call_tests}
use Rattle.audit.proofs.is_call_good.Goals as goal

pub returns-then-serial-eq0 : goal.returns-then-serial-eq0
returns-then-serial-eq0 c = search call_tests

pub returns-then-tick-long_at : goal.returns-then-tick-long_at
returns-then-tick-long_at c = search call_tests

pub returns-then-serial-least : goal.returns-then-serial-least
returns-then-serial-least c = search call_tests

pub returns : goal.returns
returns c = search call_tests

pub returns-then-is_none : goal.returns-then-is_none
returns-then-is_none c = search call_tests
