-- The rules of a policy image, each read at its place.
use Rattle.std.specs.Prelude.{List, ℕ, ◌+◌, get_or}
use Rattle.wire.specs.Words.{word_at}
use Rattle.wire.specs.declared.Order.TheVariants.{Little}
use Rattle.image.specs.Image.{verdict_byte, matcher_byte, direction_byte, reserved_byte, type_byte, subject_word, len_offset}
use Rattle.image.specs.Image.{name_span, path_span, interface_span, member_span, rule_place, string_at}
use Rattle.image.specs.declared.Section.{Section}

-- where a rule's string stands: an offset into the string area, and a length
pub record Span : Type 0 where
  pub offset : ℕ
  pub len : ℕ

abbrev pub span_at : List ℕ → ℕ → Span
span_at image at = record { offset = word_at Little image at; len = word_at Little image (at + len_offset) }

-- the bytes that it cites (rule 5.8)
abbrev pub text_of : List ℕ → Span → List ℕ
text_of image s = string_at image s.offset s.len

-- what a rule says, each section's by its own names: a connect rule has a matcher (0 is anybody, 1 the user and 2 a group with the id), a zero and an id
-- (rule 5.4); an own rule a matcher (0 is any name, 1 the name and 2 the prefix that it cites), a zero, a subject and a name (rule 5.5); a transaction
-- rule a direction (0 is send and 1 receive), a type (0 is any, 1 a method call and 4 a signal), a subject and four strings (rule 5.6). Verdict 1 allows
pub record PolicyRule : Type 0 where
  pub context : ℕ
  pub verdict : ℕ
  pub matcher : ℕ
  pub direction : ℕ
  pub reserved : ℕ
  pub type : ℕ
  pub id : ℕ
  pub subject : ℕ
  pub name : Span
  pub path : Span
  pub interface : Span
  pub member : Span

-- the rule that begins there
abbrev pub rule_from : List ℕ → ℕ → PolicyRule
rule_from image at =
    record {
      context = get_or image at 0;
      verdict = get_or image (at + verdict_byte) 0;
      matcher = get_or image (at + matcher_byte) 0;
      direction = get_or image (at + direction_byte) 0;
      reserved = get_or image (at + reserved_byte) 0;
      type = get_or image (at + type_byte) 0;
      id = word_at Little image (at + subject_word);
      subject = word_at Little image (at + subject_word);
      name = span_at image (at + name_span);
      path = span_at image (at + path_span);
      interface = span_at image (at + interface_span);
      member = span_at image (at + member_span);
    }

-- rule i of the section
abbrev pub policy_rule : Section → List ℕ → ℕ → PolicyRule
policy_rule s image i = rule_from image (rule_place s image i)
