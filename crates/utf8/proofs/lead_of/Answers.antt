-- `utf8::lead_of` meets its contract.
use Rattle.utf8.specs.Utf8.{lead_of}
use Rattle.utf8.proofs.Lines.{lines}
use Rattle.utf8.proofs.lead_of.Goals as goal

pub is_within-requires : goal.is_within-requires
unfolding lead_of
is_within-requires c = search lines depth 10

pub returns-then-is_within : goal.returns-then-is_within
unfolding lead_of
returns-then-is_within c = search lines depth 10

pub returns-then-b-eq224 : goal.returns-then-b-eq224
unfolding lead_of
returns-then-b-eq224 c = search lines depth 10

pub returns-then-b-eq237 : goal.returns-then-b-eq237
unfolding lead_of
returns-then-b-eq237 c = search lines depth 10

pub is_within-requires-2 : goal.is_within-requires-2
unfolding lead_of
is_within-requires-2 c = search lines depth 10

pub returns-then-is_within-2 : goal.returns-then-is_within-2
unfolding lead_of
returns-then-is_within-2 c = search lines depth 10

pub returns-then-b-eq240 : goal.returns-then-b-eq240
unfolding lead_of
returns-then-b-eq240 c = search lines depth 10

pub is_within-requires-3 : goal.is_within-requires-3
unfolding lead_of
is_within-requires-3 c = search lines depth 10

pub returns-then-is_within-3 : goal.returns-then-is_within-3
unfolding lead_of
returns-then-is_within-3 c = search lines depth 10

pub returns-then-b-eq244 : goal.returns-then-b-eq244
unfolding lead_of
returns-then-b-eq244 c = search lines depth 10

pub returns : goal.returns
unfolding lead_of
returns c = search lines depth 10
