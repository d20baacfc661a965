-- Worked examples of the decisions, as a table: precedence, and each matcher. T8, T9 and T12 stand in the worked table (rule 13.1).
use Rattle.std.specs.Prelude.{cond, List, [], ◌∷◌, ◌++◌, ℕ}
use Rattle.std.proofs.Math.Option.{none, some}
use Rattle.wire.specs.Bytes.{bytes}
use Rattle.image.specs.Table.{image_of, head, cites}
use Rattle.policy.specs.Matching.{Message}
use Rattle.policy.specs.Decisions.{connect_decision, own_decision, transaction_decision, decider_words, send, receive}
use Rattle.policy.specs.declared.Decision.{Decision}

-- ---- images

abbrev pub strings : List ℕ
strings = bytes "org.fooorg.a.xorg.b.y/pi.fM"

abbrev pub cites_none : List ℕ
cites_none = cites 0 0

abbrev pub foo : List ℕ
foo = cites 0 7

abbrev pub cites_ax : List ℕ
cites_ax = cites 7 7

abbrev pub cites_by : List ℕ
cites_by = cites 14 7

-- the path /p and another one, the interface i.f, the member M and another one
abbrev pub cites_path : List ℕ
cites_path = cites 21 2

abbrev pub cites_root : List ℕ
cites_root = cites 21 1

abbrev pub cites_interface : List ℕ
cites_interface = cites 23 3

abbrev pub cites_member : List ℕ
cites_member = cites 26 1

abbrev pub cites_f : List ℕ
cites_f = cites 25 1

-- a context, a verdict, a matcher and an id
abbrev pub connect_rule_bytes : ℕ → ℕ → ℕ → ℕ → List ℕ
connect_rule_bytes context verdict matcher id = head context verdict matcher 0 id

-- a context, a verdict, a matcher, a subject and a name
abbrev pub own_rule_bytes : ℕ → ℕ → ℕ → ℕ → List ℕ → List ℕ
own_rule_bytes context verdict matcher subject name = head context verdict matcher 0 subject ++ name

-- a context, a verdict, a direction, a type, a subject and a name; then path, interface and member
abbrev pub transaction_rule_bytes : ℕ → ℕ → ℕ → ℕ → ℕ → List ℕ → List ℕ → List ℕ → List ℕ → List ℕ
transaction_rule_bytes context verdict direction type subject name path interface member =
    head context verdict direction type subject ++ name ++ path ++ interface ++ member

-- a rule for sending anything to a name
abbrev pub to : ℕ → ℕ → ℕ → List ℕ → List ℕ
to context verdict subject name = transaction_rule_bytes context verdict send 0 subject name cites_none cites_none cites_none

-- anything may be received
abbrev pub received : List ℕ
received = transaction_rule_bytes 0 1 receive 0 0 cites_none cites_none cites_none cites_none

-- a default send allow of the parts
abbrev pub of : ℕ → List ℕ → List ℕ → List ℕ → List ℕ
of type path interface member = transaction_rule_bytes 0 1 send type 0 cites_none path interface member

-- anything is allowed in a direction, and behind that a type and parts are denied
abbrev pub all_but : ℕ → ℕ → List ℕ → List ℕ → List ℕ → List ℕ
all_but direction type path interface member =
    transaction_rule_bytes 0 1 direction 0 0 cites_none cites_none cites_none cites_none
    ++ transaction_rule_bytes 0 0 direction type 0 cites_none path interface member

-- rules of the three sections, over those strings
abbrev pub image_of_rules : List ℕ → List ℕ → List ℕ → List ℕ
image_of_rules connects owns transactions = image_of connects owns transactions strings

-- ---- questions, asked for uid 7 with the gids 5 and 6

abbrev pub a_call : Message
a_call = record { kind = 1; path = some (bytes "/p"); interface = some (bytes "i.f"); member = some (bytes "M") }

-- the call without its interface
abbrev pub bare : Message
bare = record { kind = 1; path = some (bytes "/p"); interface = none; member = some (bytes "M") }

-- the call as a signal
abbrev pub a_signal : Message
a_signal = record { kind = 4; path = some (bytes "/p"); interface = some (bytes "i.f"); member = some (bytes "M") }

-- a call without any field, which no good head is: the definitions are of any message, and a path or a member that is absent is matched by no text
abbrev pub fieldless : Message
fieldless = record { kind = 1; path = none; interface = none; member = none }

abbrev pub gids : List ℕ
gids = 5 ∷ 6 ∷ []

-- what is decided, and the two numbers of who decides
abbrev pub decision_shown : Decision → List ℕ
decision_shown d = cond d.allow 1 0 ∷ decider_words d.rule

abbrev pub lets_connect : List ℕ → List ℕ
lets_connect rules = decision_shown (connect_decision (image_of_rules rules [] []) (record { 0 = 7 }) gids)

abbrev pub lets_own : List ℕ → List ℕ → List ℕ
lets_own rules name = decision_shown (own_decision (image_of_rules [] rules []) (record { 0 = 7 }) gids name)

abbrev pub passes : List ℕ → ℕ → List (List ℕ) → Message → List ℕ
passes rules direction names m = decision_shown (transaction_decision (image_of_rules [] [] rules) direction (record { 0 = 7 }) gids names m)

-- ---- what they are to be: the rule at a position allows or denies, or none matches

abbrev pub allowed_by : ℕ → List ℕ
allowed_by i = 1 ∷ 1 ∷ i ∷ []

abbrev pub denied_by : ℕ → List ℕ
denied_by i = 0 ∷ 1 ∷ i ∷ []

abbrev pub none_matches : List ℕ
none_matches = 0 ∷ 2 ∷ 0 ∷ []

abbrev pub DecisionRow : Type 0
DecisionRow = List ℕ × List ℕ

-- deny where no rule matches; of one context the later rule, and any rule of a higher one; a rule about a name that is not owned; a position is counted in
-- the whole section, whatever its directions (rule 6.9)
abbrev pub decision_table : List DecisionRow
decision_table =
    (passes (to 2 1 7 cites_none ++ to 3 0 0 cites_none) send [] a_call, denied_by 1)
    ∷ (passes (to 0 1 0 cites_ax ++ to 0 0 0 cites_by) send (bytes "org.a.x" ∷ []) a_call, allowed_by 0)
    ∷ (lets_connect [], none_matches)
    ∷ (lets_own [] (bytes "org.foo"), none_matches)
    ∷ (passes [] send [] a_call, none_matches)
    ∷ (lets_connect (connect_rule_bytes 0 1 0 0 ++ connect_rule_bytes 0 0 0 0), denied_by 1)
    ∷ (lets_connect (connect_rule_bytes 3 1 0 0 ++ connect_rule_bytes 0 0 0 0), allowed_by 0)
    ∷ (passes (received ++ to 0 1 0 cites_none) send [] a_call, allowed_by 1)
    ∷ []

-- connect: anybody, a uid, a gid; own: a name that is equal, and subjects
abbrev pub people : List DecisionRow
people =
    (lets_connect (connect_rule_bytes 0 1 1 7), allowed_by 0)
    ∷ (lets_connect (connect_rule_bytes 0 1 1 5), none_matches)
    ∷ (lets_connect (connect_rule_bytes 0 1 2 6), allowed_by 0)
    ∷ (lets_connect (connect_rule_bytes 0 1 2 7), none_matches)
    ∷ (lets_own (own_rule_bytes 0 1 1 0 foo) (bytes "org.foo"), allowed_by 0)
    ∷ (lets_own (own_rule_bytes 0 1 1 0 foo) (bytes "org.foo.bar"), none_matches)
    ∷ (lets_own (own_rule_bytes 1 1 0 5 cites_none) (bytes "org.foo"), allowed_by 0)
    ∷ (lets_own (own_rule_bytes 1 1 0 7 cites_none) (bytes "org.foo"), none_matches)
    ∷ (lets_own (own_rule_bytes 2 1 0 7 cites_none) (bytes "org.foo"), allowed_by 0)
    ∷ (lets_own (own_rule_bytes 2 1 0 5 cites_none) (bytes "org.foo"), none_matches)
    ∷ []

-- direction, type, path, interface and member; a name that is not owned
abbrev pub message_rows : List DecisionRow
message_rows =
    (passes (to 0 1 0 cites_none) receive [] a_call, none_matches)
    ∷ (passes (of 4 cites_none cites_none cites_none) send [] a_call, none_matches)
    ∷ (passes (of 1 cites_path cites_interface cites_member) send [] a_call, allowed_by 0)
    ∷ (passes (of 1 cites_root cites_none cites_none) send [] a_call, none_matches)
    ∷ (passes (of 1 cites_none cites_none cites_member) send [] bare, allowed_by 0)
    ∷ (passes (to 0 1 0 foo) send [] a_call, none_matches)
    ∷ []

-- a rule that names an interface, against a call without one (rule 6.8): a deny matches in either direction where its type, path and member fit, and an
-- allow is skipped; a deny does not match another interface, of a call or of a signal, nor an absent path or member
abbrev pub bare_rows : List DecisionRow
bare_rows =
    (passes (all_but send 1 cites_path cites_interface cites_member) send [] bare, denied_by 1)
    ∷ (passes (all_but receive 0 cites_none cites_interface cites_none) receive [] bare, denied_by 1)
    ∷ (passes (all_but send 0 cites_none cites_interface cites_f) send [] bare, allowed_by 0)
    ∷ (passes (all_but send 0 cites_root cites_interface cites_none) send [] bare, allowed_by 0)
    ∷ (passes (all_but send 4 cites_none cites_interface cites_none) send [] bare, allowed_by 0)
    ∷ (passes (of 1 cites_none cites_interface cites_none) send [] bare, none_matches)
    ∷ (passes (all_but send 0 cites_none foo cites_none) send [] a_call, allowed_by 0)
    ∷ (passes (all_but send 0 cites_none foo cites_none) send [] a_signal, allowed_by 0)
    ∷ (passes (all_but send 0 cites_none cites_interface cites_none) send [] a_signal, denied_by 1)
    ∷ (passes (all_but send 0 cites_path cites_none cites_none) send [] fieldless, allowed_by 0)
    ∷ (passes (all_but send 0 cites_none cites_none cites_member) send [] fieldless, allowed_by 0)
    ∷ []
