-- A law for each way through the tests of an image: what the code has read makes the definition.
use mathlib.Core.Path.{◌≡◌, ◌∙◌, subst}
use mathlib.Core.Bool.{Bool, true, false, not, ◌&&◌, ◌||◌, and-false}
use mathlib.Core.List.{List}
use Prim.Native.Nat.{ℕ, ◌+◌, ◌-◌, ◌*◌, ◌≤◌, ◌<◌}
use lib.Dec.{leb, eqb}
use lib.ListN.{length, take, drop}
use borrow.Author.Rules.{rules}
use borrow.Author.Tests.{not-true, not-false, le-leb, lt-leb, eq-eqb, ne_eqb}
use Rattle.wire.proofs.Words.{cut_at}
use Rattle.names.specs.Names.{valid_name}
use Rattle.names.specs.declared.Form.{Form}
use Rattle.names.specs.declared.Form.TheVariants.{Interface, WellKnown, Member, Path}
use Rattle.image.specs.Image.{sections_at, total_length, rule_count, rule_offset, rule_size, string_offset}
use Rattle.image.specs.Rules.{span_at, text_of, PolicyRule, rule_from}
use Rattle.image.specs.Good.{good_counts, good_sections, good_header, good_string, good_or_any, good_owned, good_strings, good_subject, good_matcher}
use Rattle.image.specs.Good.{good_connect_rule, good_own_rule, good_transaction_rule, good_rule, good_section, good_image, outcome_of}
use Rattle.image.specs.Promises.{RuleAt}
use Rattle.image.specs.declared.Section.{Section}
use Rattle.image.specs.declared.Section.TheVariants.{Connect, Own, Transaction}
use Rattle.image.specs.declared.Outcome.TheVariants.{Good, Bad}

module _ (image : List ℕ) where
  -- ---- the header

  pub counts : (t c o n : ℕ) → t ≡ total_length image → c ≡ rule_count Connect image → o ≡ rule_count Own image → n ≡ rule_count Transaction image
      → eqb t (length image) && leb c 256 && leb o 256 && leb n 512 ≡ good_counts image
  unfolding good_counts
  counts t c o n p q r s = rw (p, q, r, s)

  pub sections : (c o t s a b d : ℕ) → c ≡ rule_offset Connect image → o ≡ rule_offset Own image → t ≡ rule_offset Transaction image → s ≡ string_offset image
      → a ≡ rule_count Connect image → b ≡ rule_count Own image → d ≡ rule_count Transaction image
      → eqb c sections_at && eqb o (c + rule_size Connect * a) && eqb t (o + rule_size Own * b) && eqb s (t + rule_size Transaction * d) && leb s (length image)
      ≡ good_sections image
  unfolding good_sections
  sections c o t s a b d p q r u v w x = rw (p, q, r, u, v, w, x)

  pub too_short : length image < sections_at → false ≡ good_header image
  unfolding good_header
  too_short h = rw (lt-leb sections_at (length image) h)

  pub too_long : 65536 < length image → false ≡ good_header image
  unfolding good_header
  too_long h = rw (lt-leb (length image) 65536 h, and-false)

  pub header_is : (a b : Bool) → sections_at ≤ length image → length image ≤ 65536 → a ≡ good_counts image → b ≡ good_sections image → a && b ≡ good_header image
  unfolding good_header
  header_is a b h k p q = rw (le-leb sections_at (length image) h, le-leb (length image) 65536 k, p, q)

  -- ---- strings

  module _ (strings at a b : ℕ) (s : strings ≡ string_offset image) (p : a ≡ (span_at image at).offset) (q : b ≡ (span_at image at).len) where
    pub cited : take (strings + a + b - (strings + a)) (drop (strings + a) image) ≡ text_of image (span_at image at)
    cited = cut_at (strings + a) b image ∙ rw (s, p, q)

    pub outside : (f : Form) → length image < strings + a + b → false ≡ good_string f image (span_at image at)
    unfolding good_string
    outside f h = rw (← s, ← p, ← q, lt-leb (strings + a + b) (length image) h)

    pub inside : (f : Form) (r : Bool) → strings + a + b ≤ length image
        → r ≡ valid_name f (take (strings + a + b - (strings + a)) (drop (strings + a) image)) → r ≡ good_string f image (span_at image at)
    unfolding good_string
    inside f r h e = e ∙ rw (cited, ← s, ← p, ← q, le-leb (strings + a + b) (length image) h)

  module _ (f : Form) (at : ℕ) where
    pub any : (a b : ℕ) → b ≡ (span_at image at).len → b ≡ 0 → a ≡ (span_at image at).offset → eqb a 0 ≡ good_or_any f image (span_at image at)
    unfolding good_or_any
    any a b p z q = rw (← p, ← q, eq-eqb b 0 z)

    pub literal : (b : ℕ) (r : Bool) → b ≡ (span_at image at).len → (b ≡ 0 → ⊥) → r ≡ good_string f image (span_at image at)
        → r ≡ good_or_any f image (span_at image at)
    unfolding good_or_any
    literal b r p z e = rw (ne_eqb (span_at image at).len 0 (λ k. z (p ∙ k))) e

  -- ---- rules

  -- the rule at `at`
  module _ (at : ℕ) where
    abbrev r : PolicyRule
    r = rule_from image at

    pub any_name : (a b : ℕ) → r.matcher ≡ 0 → a ≡ r.name.offset → b ≡ r.name.len → eqb a 0 && eqb b 0 ≡ good_owned image r
    unfolding good_owned
    any_name a b z p q = rw (eq-eqb r.matcher 0 z, ← p, ← q)

    pub one_name : (b : Bool) → (r.matcher ≡ 0 → ⊥) → b ≡ good_string WellKnown image r.name → b ≡ good_owned image r
    unfolding good_owned
    one_name b z e = rw (ne_eqb r.matcher 0 z) e

    pub subject : (a : ℕ) → a ≡ r.subject → leb r.context 3 && (eqb r.context 1 || eqb r.context 2 || eqb a 0) ≡ good_subject r
    subject a p = rw p

    pub strings_are : (a b c d : Bool) → a ≡ good_or_any WellKnown image r.name → b ≡ good_or_any Path image r.path
        → c ≡ good_or_any Interface image r.interface → d ≡ good_or_any Member image r.member → a && b && c && d ≡ good_strings image r
    unfolding good_strings
    strings_are a b c d p q r s = rw (p, q, r, s)

  -- the section that is asked for
  module _ {s t : Section} (e : s ≡ t) where
    pub asked_at : {from i : ℕ} → RuleAt image s from i → RuleAt image t from i
    asked_at {from} {i} = subst (λ (u : Section). RuleAt image u from i) e

    pub asked_rule : (i : ℕ) {r : Bool} → r ≡ good_rule t image i → r ≡ good_rule s image i
    asked_rule i h = rw e h

  -- rule i of a section, whose rules stand from `from` on
  module _ (from i : ℕ) where
    abbrev rule : Section → PolicyRule
    rule s = rule_from image (from + rule_size s * i)

    pub connect_is : (a : ℕ) (m : Bool) → from ≡ rule_offset Connect image → m ≡ good_matcher (rule Connect) → a ≡ (rule Connect).id
        → (eqb (rule Connect).context 0 || eqb (rule Connect).context 3) && m && (leb 1 (rule Connect).matcher || eqb a 0) ≡ good_rule Connect image i
    unfolding good_rule good_connect_rule
    connect_is a m p q r = rw (r, q, p)

    pub own_is : (s m o : Bool) → from ≡ rule_offset Own image → s ≡ good_subject (rule Own) → m ≡ good_matcher (rule Own) → o ≡ good_owned image (rule Own)
        → s && m && o ≡ good_rule Own image i
    unfolding good_rule good_own_rule
    own_is s m o p q r t = rw (q, r, t, p)

    -- the code's test of a transaction rule's first bytes, where s says that the subject is good
    abbrev numbers : PolicyRule → Bool → Bool
    numbers r s = s && leb r.verdict 1 && leb r.direction 1 && (eqb r.type 0 || eqb r.type 1 || eqb r.type 4)

    module _ (s : Bool) (p : from ≡ rule_offset Transaction image) (q : s ≡ good_subject (rule Transaction)) where
      pub transaction_bad : numbers (rule Transaction) s ≡ false → false ≡ good_rule Transaction image i
      unfolding good_rule good_transaction_rule
      transaction_bad e = rw (← p, ← q, e)

      pub transaction_is : numbers (rule Transaction) s ≡ true → (o : Bool) → o ≡ good_strings image (rule Transaction) → o ≡ good_rule Transaction image i
      unfolding good_rule good_transaction_rule
      transaction_is e o r = r ∙ rw (← p, ← q, e)

  -- ---- the image

  module _ (h : Bool) (e : h ≡ good_header image) where
    pub no_header : not h ≡ true → Bad ≡ outcome_of image
    unfolding outcome_of good_image
    no_header n = rw (← e, not-true h n)

    module _ (n : not h ≡ false) (a b c : Bool)
        (p : a ≡ good_section Connect image)
        (q : b ≡ good_section Own image)
        (r : c ≡ good_section Transaction image) where
      pub all_good : a && b && c ≡ true → Good ≡ outcome_of image
      unfolding outcome_of good_image
      all_good t = rw (← e, not-false h n, ← p, ← q, ← r, t)

      pub some_bad : a && b && c ≡ false → Bad ≡ outcome_of image
      unfolding outcome_of good_image
      some_bad t = rw (← e, not-false h n, ← p, ← q, ← r, t)

pub ruleset asked = (asked_at, asked_rule, rules)
