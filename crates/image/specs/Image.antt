-- A policy image as bytes: its header and its strings.
use Rattle.std.specs.Prelude.{List, ℕ, ◌+◌, ◌*◌, take, drop}
use Rattle.wire.specs.Words.{word_at}
use Rattle.wire.specs.declared.Order.TheVariants.{Little}
use Rattle.image.specs.declared.Section.{Section}
use Rattle.image.specs.declared.Section.TheVariants.{Connect, Own, Transaction}

-- ---- where the eight little-endian numbers of the header stand (rule 5.1): the total, each section's count and offset, the offset of the strings

abbrev pub rule_count_at : Section → ℕ
rule_count_at Connect = 4
rule_count_at Own = 4 + 8
rule_count_at Transaction = 4 + 8 * 2

abbrev pub string_offset_at : ℕ
string_offset_at = 4 + 8 * 3

-- behind the header
abbrev pub sections_at : ℕ
sections_at = string_offset_at + 4

abbrev pub total_length : List ℕ → ℕ
total_length image = word_at Little image 0

abbrev pub rule_count : Section → List ℕ → ℕ
rule_count s image = word_at Little image (rule_count_at s)

abbrev pub rule_offset : Section → List ℕ → ℕ
rule_offset s image = word_at Little image (rule_count_at s + 4)

abbrev pub string_offset : List ℕ → ℕ
string_offset image = word_at Little image string_offset_at

-- ---- where the parts of a rule stand, behind its context: bytes, a word, and strings by their offsets and lengths (rules 5.4, 5.5 and 5.6)

abbrev pub verdict_byte : ℕ
verdict_byte = 1

-- a connect or own rule has a matcher and a zero where a transaction rule has its direction and its type
abbrev pub matcher_byte : ℕ
matcher_byte = 2

abbrev pub direction_byte : ℕ
direction_byte = 2

abbrev pub reserved_byte : ℕ
reserved_byte = 3

abbrev pub type_byte : ℕ
type_byte = 3

-- the id of a connect rule, and the subject of any other
abbrev pub subject_word : ℕ
subject_word = 4

-- a string's length stands behind its offset
abbrev pub len_offset : ℕ
len_offset = 4

abbrev pub span_width : ℕ
span_width = len_offset + 4

abbrev pub name_span : ℕ
name_span = subject_word + 4

abbrev pub path_span : ℕ
path_span = name_span + span_width

abbrev pub interface_span : ℕ
interface_span = path_span + span_width

abbrev pub member_span : ℕ
member_span = interface_span + span_width

-- how many bytes a rule of the section has (rules 5.4, 5.5 and 5.6)
abbrev pub rule_size : Section → ℕ
rule_size Connect = subject_word + 4
rule_size Own = name_span + span_width
rule_size Transaction = member_span + span_width

-- ---- rules and strings

-- where rule i of the section begins, and where the section ends: its rules stand one behind the other (rule 5.3)
abbrev pub rule_place : Section → List ℕ → ℕ → ℕ
rule_place s image i = rule_offset s image + rule_size s * i

abbrev pub rules_end : Section → List ℕ → ℕ
rules_end s image = rule_place s image (rule_count s image)

-- the string of a length at an offset, which counts from the start of the string area (rule 5.8)
abbrev pub string_at : List ℕ → ℕ → ℕ → List ℕ
string_at image offset len = take len (drop (string_offset image + offset) image)
