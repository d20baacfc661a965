-- Which rules match.
use Rattle.std.specs.Prelude.{Bool, true, false, cond, not, ◌&&◌, ◌||◌, List, ℕ, eqb}
use Rattle.std.proofs.Math.Option.{Option, none, some}
use Rattle.wire.specs.Bytes.{same}
use Rattle.names.specs.Namespace.{in_namespace}
use Rattle.image.specs.Rules.{Span, text_of, PolicyRule}
use Rattle.header.specs.Fields.{text_at, present}
use Rattle.header.specs.declared.Place.{Place}
use Rattle.header.specs.declared.Header.{Header}
use Rattle.policy.specs.Names.{owns}
use Rattle.policy.specs.Subjects.{same_user, in_groups, subject_fits}
use Rattle.policy.specs.declared.Uid.{Uid}

-- the verdict of a rule is allow, or else deny (rules 5.4, 5.5 and 5.6)
abbrev pub allows : PolicyRule → Bool
allows r = eqb r.verdict 1

-- ---- connect

-- a connect rule is about anybody, the user with its id, or whoever has its id among the gids (rule 6.3)
unfoldable pub connect_fits : PolicyRule → Uid → List ℕ → Bool
connect_fits r uid gids =
    cond (eqb r.matcher 0) true (cond (eqb r.matcher 1) (same_user uid (record { 0 = r.id })) (in_groups gids (record { 0 = r.id })))

-- ---- own

-- an own rule is about any name, its own name, or the names under its prefix (rule 6.4)
unfoldable pub owned_fits : List ℕ → PolicyRule → List ℕ → Bool
owned_fits image r name =
    cond (eqb r.matcher 0) true
    (cond (eqb r.matcher 1) (same (text_of image r.name) name) (in_namespace (text_of image r.name) name))

-- it matches where it is about the peer and about the name (rule 6.4)
unfoldable pub own_fits : List ℕ → PolicyRule → Uid → List ℕ → List ℕ → Bool
own_fits image r uid gids name = subject_fits r.context r.subject uid gids && owned_fits image r name

-- ---- send and receive

-- the parts of a message that rules speak of; `none` is an absent field (rule 6.7)
pub record Message : Type 0 where
  pub kind : ℕ
  pub path : Option (List ℕ)
  pub interface : Option (List ℕ)
  pub member : Option (List ℕ)

-- the text of a field of the head, where it is present (rule 6.7)
abbrev pub field_of : List ℕ → Place → Option (List ℕ)
field_of h p = cond (present p) (some (text_at h p)) none

unfoldable pub message_of : List ℕ → Header → Message
message_of h m =
    record { kind = m.kind; path = field_of h m.path; interface = field_of h m.interface; member = field_of h m.member }

-- the same message without its interface (rule 6.8)
abbrev pub without_interface : Message → Message
without_interface m = record { kind = m.kind; path = m.path; interface = none; member = m.member }

-- a rule's text fits no absent field (rule 6.7)
abbrev pub equals : List ℕ → Option (List ℕ) → Bool
equals literal none = false
equals literal (some text) = same literal text

-- a text of length 0 stands for any (rule 6.7)
unfoldable pub part_fits : List ℕ → Span → Option (List ℕ) → Bool
part_fits image s part = eqb s.len 0 || equals (text_of image s) part

-- a rule that names an interface fits a message without one exactly where it denies (rule 6.8)
unfoldable pub interface_fits : List ℕ → PolicyRule → Option (List ℕ) → Bool
interface_fits image r none = eqb r.interface.len 0 || not (allows r)
interface_fits image r (some text) = part_fits image r.interface (some text)

-- path, interface and member, each by itself (rule 6.7)
unfoldable pub parts_fit : List ℕ → PolicyRule → Message → Bool
parts_fit image r m = part_fits image r.path m.path && interface_fits image r m.interface && part_fits image r.member m.member

-- the type is any or the message's (rule 6.5)
abbrev pub type_fits : PolicyRule → ℕ → Bool
type_fits r kind = eqb r.type 0 || eqb r.type kind

-- the name is any, or one of all those that the other party owns (rule 6.6)
unfoldable pub name_fits : List ℕ → PolicyRule → List (List ℕ) → Bool
name_fits image r names = eqb r.name.len 0 || owns names (text_of image r.name)

-- everything but direction and name; uid and gids are the sender's for send and the receiver's for receive (rule 6.5)
unfoldable pub transaction_fits : List ℕ → PolicyRule → Uid → List ℕ → Message → Bool
transaction_fits image r uid gids m = type_fits r m.kind && subject_fits r.context r.subject uid gids && parts_fit image r m

-- only rules of the asked direction match (rule 6.5)
unfoldable pub transaction_matches : List ℕ → PolicyRule → ℕ → Uid → List ℕ → List (List ℕ) → Message → Bool
transaction_matches image r direction uid gids names m =
    eqb r.direction direction && transaction_fits image r uid gids m && name_fits image r names
