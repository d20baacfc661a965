-- The worked examples hold of the rules: a statement for each part of the table, which antt computes.
use mathlib.Core.Path.{◌≡◌, refl}
use mathlib.Core.Bool.{true}
use mathlib.Core.List.{List}
use Prim.Native.Nat.{ℕ}
use Rattle.wire.specs.Lists.{agrees}
use Rattle.wire.specs.Bytes.{same}
use Rattle.wire.specs.Words.{word_at, word_bytes}
use Rattle.names.specs.Names.{starts_with, well_known}
use Rattle.policy.specs.Precedence.{deciding}
use Rattle.policy.specs.Names.{owns}
use Rattle.policy.specs.Subjects.{subject_fits}
use Rattle.policy.specs.Matching.{connect_fits, owned_fits, own_fits, message_of, part_fits, interface_fits, parts_fit, name_fits, transaction_fits, transaction_matches}
use Rattle.policy.specs.Decisions.{decides_in, connect_decision, own_decision, transaction_decision}
use Rattle.stream.specs.Stream.{offer}
use Rattle.rules.specs.State.{first_by, drop_first}
use Rattle.rules.specs.Addresses.{digits, unique_name, answers_to, resolve}
use Rattle.rules.specs.Pending.{awaits, ended, ended_where, count_where, count_in}
use Rattle.rules.specs.Judge.{mask_of, count_of, judged}
use Rattle.rules.specs.Calls.{connect, own, released, release, piece, disconnect, tick}
use Rattle.rules.specs.Bench.{CallRow, judgement_rows, replies, connect_rows, claim_rows, piece_rows, tick_rows, offerings}

abbrev Holds : List CallRow → Type 0
Holds lines = agrees (λ (given : List ℕ). given) same lines ≡ true

pub messages_hold : Holds judgement_rows
unfolding same word_at word_bytes deciding owns subject_fits message_of part_fits interface_fits parts_fit name_fits transaction_fits transaction_matches decides_in
    transaction_decision first_by digits unique_name answers_to resolve awaits mask_of count_of judged
messages_hold = refl

pub replies_hold : Holds replies
unfolding same word_at word_bytes deciding owns subject_fits message_of part_fits interface_fits parts_fit name_fits transaction_fits transaction_matches decides_in
    transaction_decision first_by drop_first digits unique_name answers_to resolve awaits ended ended_where judged disconnect
replies_hold = refl

pub connects_hold : Holds connect_rows
unfolding same word_at word_bytes deciding connect_fits decides_in connect_decision first_by connect
connects_hold = refl

pub claims_hold : Holds claim_rows
unfolding same word_at word_bytes starts_with well_known deciding owns subject_fits owned_fits own_fits decides_in own_decision first_by drop_first own released release
claims_hold = refl

pub pieces_hold : Holds piece_rows
unfolding same offer first_by ended_where piece disconnect
pieces_hold = refl

pub ticks_hold : Holds tick_rows
unfolding same word_at word_bytes starts_with well_known deciding owns connect_fits subject_fits message_of part_fits interface_fits parts_fit name_fits transaction_fits
    transaction_matches decides_in connect_decision transaction_decision first_by drop_first digits unique_name answers_to resolve awaits ended ended_where count_where count_in
    judged connect released release disconnect tick
ticks_hold = refl

pub offerings_hold : Holds offerings
unfolding same
offerings_hold = refl
