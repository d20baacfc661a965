-- The loop that looks for a prefix rule: the byte that it reads is the matcher of the own rule below i.
use mathlib.Core.Path.{◌≡◌, refl}
use mathlib.Core.Bool.{true, false}
use mathlib.Core.List.{List}
use Prim.Native.Nat.{ℕ, ◌+◌, ◌-◌, ◌*◌, ◌<◌}
use native.Mathlib.Omega.{arith}
use lib.ListN.{length, get_or}
use borrow.Author.Rules.{rules}
use borrow.Author.Tests.{eq-eqb, ne_eqb}
use Rattle.wire.proofs.Below.{Testing, begin, done, more, fails}
use Rattle.image.specs.Image.{rule_count, rule_offset, rule_size, matcher_byte}
use Rattle.image.specs.Rules.{policy_rule}
use Rattle.image.specs.Good.{no_prefix, without_prefixes}
use Rattle.image.specs.Promises.{GoodImage}
use Rattle.image.specs.declared.Section.TheVariants.{Own}

-- the rules below i are left to be looked at, and there is one
pub record Looking (image : List ℕ) (i : ℕ) : Type 0 where
  pub left : Testing (no_prefix image) (rule_count Own image) i
  pub some : 0 < i

module _ (image : List ℕ) where
  pub no_rules_lem : (n : ℕ) → n ≡ rule_count Own image → n ≡ 0 → true ≡ without_prefixes image
  unfolding without_prefixes
  no_rules_lem n e z = done (begin e) (omega arith)

  pub some_rules : (n : ℕ) → n ≡ rule_count Own image → (n ≡ 0 → ⊥) → Looking image n
  some_rules n e z = record { left = begin e; some = omega arith }

  module _ {from i : ℕ} (p : from ≡ rule_offset Own image) (t : Looking image i) where
    -- the matcher that is read
    abbrev read : ℕ
    read = get_or image (from + matcher_byte + rule_size Own * (i - 1)) 0

    matcher_is : read ≡ (policy_rule Own image (i - 1)).matcher
    matcher_is =
        let e : rule_offset Own image + matcher_byte + rule_size Own * (i - 1) ≡ rule_offset Own image + rule_size Own * (i - 1) + matcher_byte = omega arith in
        rw (p, e)

    pub matcher_inside : GoodImage image → from + matcher_byte + rule_size Own * (i - 1) < length image
    matcher_inside g =
        let h = g.header in omega (arith, t.left.inside, t.some, h.owns_at, h.transactions_at, h.strings_at, h.strings_inside, p)

    pub is_prefix_lem : read ≡ 2 → false ≡ without_prefixes image
    unfolding without_prefixes
    is_prefix_lem e = fails t.left t.some {r = false} (rw (← matcher_is, eq-eqb read 2 e)) refl

    module _ (e : read ≡ 2 → ⊥) where
      one_less : Testing (no_prefix image) (rule_count Own image) (i - 1)
      one_less = more t.left t.some {r = true} (rw (← matcher_is, ne_eqb read 2 e)) refl

      pub none_left : i - 1 ≡ 0 → true ≡ without_prefixes image
      unfolding without_prefixes
      none_left z = done one_less (omega arith)

      pub some_left : (i - 1 ≡ 0 → ⊥) → Looking image (i - 1)
      some_left z = record { left = one_less; some = omega arith }

pub ruleset looking = (no_rules_lem, some_rules, matcher_inside, is_prefix_lem, none_left, some_left, rules)
