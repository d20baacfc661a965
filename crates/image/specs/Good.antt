-- Which policy images are good.
use Rattle.std.specs.Prelude.{Bool, cond, not, ◌&&◌, ◌||◌, List, ℕ, ◌+◌, leb, eqb, length}
use Rattle.wire.specs.Lists.{below}
use Rattle.names.specs.Names.{valid_name}
use Rattle.names.specs.declared.Form.{Form}
use Rattle.names.specs.declared.Form.TheVariants.{Interface, WellKnown, Member, Path}
use Rattle.image.specs.Image.{sections_at, total_length, rule_count, rule_offset, rules_end, string_offset}
use Rattle.image.specs.Rules.{Span, text_of, PolicyRule, policy_rule}
use Rattle.image.specs.declared.Section.{Section}
use Rattle.image.specs.declared.Section.TheVariants.{Connect, Own, Transaction}
use Rattle.image.specs.declared.Outcome.{Outcome}
use Rattle.image.specs.declared.Outcome.TheVariants.{Good, Bad}

-- ---- the header

-- the total is the length of what is lent, and each section has no more rules than its limit (rule 5.2)
unfoldable pub good_counts : List ℕ → Bool
good_counts image =
    eqb (total_length image) (length image)
    && leb (rule_count Connect image) 256
    && leb (rule_count Own image) 256
    && leb (rule_count Transaction image) 512

-- each section begins where the one before it ends, the first behind the header, and the strings run to the end of the image (rule 5.3)
unfoldable pub good_sections : List ℕ → Bool
good_sections image =
    eqb (rule_offset Connect image) sections_at
    && eqb (rule_offset Own image) (rules_end Connect image)
    && eqb (rule_offset Transaction image) (rules_end Own image)
    && eqb (string_offset image) (rules_end Transaction image)
    && leb (string_offset image) (length image)

-- an image has 32 bytes at least, its header, and 65,536 at most (rule 5.1)
unfoldable pub good_header : List ℕ → Bool
good_header image = leb sections_at (length image) && leb (length image) 65536 && good_counts image && good_sections image

-- ---- strings

-- a string lies inside the string area, which ends with the image, and is a name of its form (rule 5.8)
unfoldable pub good_string : Form → List ℕ → Span → Bool
good_string form image s = leb (string_offset image + s.offset + s.len) (length image) && valid_name form (text_of image s)

-- in a transaction rule a length of 0 stands for any, and then the offset is 0 too (rule 5.6)
unfoldable pub good_or_any : Form → List ℕ → Span → Bool
good_or_any form image s = cond (eqb s.len 0) (eqb s.offset 0) (good_string form image s)

-- an own rule about any name cites no string, and any other cites a well-known name (rules 5.5 and 5.8)
unfoldable pub good_owned : List ℕ → PolicyRule → Bool
good_owned image r =
    cond (eqb r.matcher 0) (eqb r.name.offset 0 && eqb r.name.len 0) (good_string WellKnown image r.name)

-- ---- rules

-- there are four contexts, and only those of groups (1) and users (2) have a subject (rule 5.7)
abbrev pub good_subject : PolicyRule → Bool
good_subject r = leb r.context 3 && (eqb r.context 1 || eqb r.context 2 || eqb r.subject 0)

-- verdict 0 or 1, matcher 0 to 2, zero: three bytes that connect and own rules share (rules 5.4 and 5.5)
abbrev pub good_matcher : PolicyRule → Bool
good_matcher r = leb r.verdict 1 && leb r.matcher 2 && eqb r.reserved 0

-- connect rules are default or mandatory, and one that is about anybody has no id (rule 5.4)
unfoldable pub good_connect_rule : PolicyRule → Bool
good_connect_rule r = (eqb r.context 0 || eqb r.context 3) && good_matcher r && (leb 1 r.matcher || eqb r.id 0)

-- an own rule's bytes and its string (rule 5.5)
unfoldable pub good_own_rule : List ℕ → PolicyRule → Bool
good_own_rule image r = good_subject r && good_matcher r && good_owned image r

-- the four strings of a transaction rule, each with its own form (rules 5.6 and 5.8)
unfoldable pub good_strings : List ℕ → PolicyRule → Bool
good_strings image r =
    good_or_any WellKnown image r.name
    && good_or_any Path image r.path
    && good_or_any Interface image r.interface
    && good_or_any Member image r.member

-- a transaction rule's bytes and its strings; returns and errors have no rules (rule 5.6)
unfoldable pub good_transaction_rule : List ℕ → PolicyRule → Bool
good_transaction_rule image r =
    good_subject r
    && leb r.verdict 1
    && leb r.direction 1
    && (eqb r.type 0 || eqb r.type 1 || eqb r.type 4)
    && good_strings image r

-- rule i of the section is a good one
unfoldable pub good_rule : Section → List ℕ → ℕ → Bool
good_rule Connect image i = good_connect_rule (policy_rule Connect image i)
good_rule Own image i = good_own_rule image (policy_rule Own image i)
good_rule Transaction image i = good_transaction_rule image (policy_rule Transaction image i)

-- every rule of the section is
abbrev pub good_section : Section → List ℕ → Bool
good_section s image = below (good_rule s image) (rule_count s image)

-- ---- the image

-- the header and every rule of the three sections (rule 5.9)
unfoldable pub good_image : List ℕ → Bool
good_image image =
    good_header image && good_section Connect image && good_section Own image && good_section Transaction image

-- what the test of an image says (rule 5.9)
unfoldable pub outcome_of : List ℕ → Outcome
outcome_of image = cond (good_image image) Good Bad

-- ---- prefixes

-- an own rule about a prefix (rule 5.5)
abbrev pub is_prefix_rule : PolicyRule → Bool
is_prefix_rule r = eqb r.matcher 2

abbrev pub no_prefix : List ℕ → ℕ → Bool
no_prefix image i = not (is_prefix_rule (policy_rule Own image i))

-- none is (rule 5.5)
unfoldable pub without_prefixes : List ℕ → Bool
without_prefixes image = below (no_prefix image) (rule_count Own image)

-- ---- what a call answers

-- the answer number of each case (rule 5.9)
abbrev pub outcome_answer : Outcome → ℕ
outcome_answer Good = 0
outcome_answer Bad = 50

-- what a call that takes this image answers before all else, and 0 where it goes on (rules 5.9 and 8.1)
unfoldable pub image_answer : List ℕ → ℕ
image_answer image = outcome_answer (outcome_of image)
