-- What functions over an image require of it, as plain numbers.
use Rattle.std.specs.Prelude.{◌≡◌, true, List, ℕ, ◌+◌, ◌*◌, ◌≤◌, length}
use Rattle.image.specs.Image.{sections_at, total_length, rule_count, rule_offset, rule_size, span_width, rules_end, string_offset}
use Rattle.image.specs.Rules.{span_at}
use Rattle.image.specs.Good.{good_image}
use Rattle.image.specs.declared.Section.{Section}
use Rattle.image.specs.declared.Section.TheVariants.{Connect, Own, Transaction}

-- the header is good
pub record GoodImageHeader (image : List ℕ) : Type 0 where
  pub low : sections_at ≤ length image
  pub high : length image ≤ 65536
  pub total : total_length image ≡ length image
  pub connects : rule_count Connect image ≤ 256
  pub owns : rule_count Own image ≤ 256
  pub transactions : rule_count Transaction image ≤ 512
  pub connects_at : rule_offset Connect image ≡ sections_at
  pub owns_at : rule_offset Own image ≡ rules_end Connect image
  pub transactions_at : rule_offset Transaction image ≡ rules_end Own image
  pub strings_at : string_offset image ≡ rules_end Transaction image
  pub strings_inside : string_offset image ≤ length image

-- the string area starts at `strings`
pub record Strings (image : List ℕ) (strings : ℕ) : Type 0 where
  pub area : strings ≡ string_offset image
  pub small : strings ≤ 65536

-- the string whose offset and length stand at `at` lies inside the image
pub record Cites (image : List ℕ) (strings at : ℕ) : Type 0 where
  pub area : strings ≡ string_offset image
  pub inside : at + span_width ≤ length image
  pub text : string_offset image + (span_at image at).offset + (span_at image at).len ≤ length image

-- rule i of a section, which starts at `from`, lies inside the image
pub record RuleAt (image : List ℕ) (s : Section) (from i : ℕ) : Type 0 where
  pub start : from ≡ rule_offset s image
  pub inside : from + rule_size s * i + rule_size s ≤ length image

-- the image is good
pub record GoodImage (image : List ℕ) : Type 0 where
  pub header : GoodImageHeader image
  pub is : good_image image ≡ true
