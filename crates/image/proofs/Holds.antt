-- What holds of a good header and of a good image.
use mathlib.Core.Path.{◌≡◌, refl, sym, ◌∙◌}
use mathlib.Core.Bool.{Bool, true, false, not, cond}
use mathlib.Core.List.{List, [], ◌∷◌}
use Prim.Native.Nat.{ℕ, ◌+◌, ◌-◌, ◌*◌, ◌≤◌, ◌<◌}
use native.Mathlib.Omega.{arith}
use lib.Dec.{leb, eqb}
use lib.ListN.{length, get_or}
use borrow.Author.Tests.{not-false, leb-true, eqb-true}
use Rattle.wire.specs.Words.{word_at}
use Rattle.wire.specs.declared.Order.TheVariants.{Little}
use Rattle.wire.proofs.Below.{row_each, Testing, begin}
use Rattle.wire.proofs.Texts.{impossible}
use Rattle.image.specs.Image.{sections_at, total_length, rule_count_at, rule_count, rule_offset, rule_size, rules_end, string_offset}
use Rattle.image.specs.Good.{good_counts, good_sections, good_header, good_rule, good_section, good_image, outcome_of}
use Rattle.image.specs.Promises.{GoodImageHeader, RuleAt, GoodImage}
use Rattle.image.specs.declared.Section.{Section}
use Rattle.image.specs.declared.Section.TheVariants.{Connect, Own, Transaction}
use Rattle.image.specs.declared.Outcome.TheVariants.{Good, Bad}

-- ---- the header

module _ (image : List ℕ) where
  pub header_holds : good_header image ≡ true → GoodImageHeader image
  unfolding good_header good_counts good_sections
  header_holds h =
      let k = row_each true (leb sections_at (length image) ∷ leb (length image) 65536 ∷ good_counts image ∷ good_sections image ∷ []) h in
      let c = row_each true
      (eqb (total_length image) (length image) ∷ leb (rule_count Connect image) 256 ∷ leb (rule_count Own image) 256
      ∷ leb (rule_count Transaction image) 512 ∷ []) (k 2) in
      let s =
      row_each
      true
      (eqb (rule_offset Connect image) sections_at
      ∷ eqb (rule_offset Own image) (rules_end Connect image)
      ∷ eqb (rule_offset Transaction image) (rules_end Own image)
      ∷ eqb (string_offset image) (rules_end Transaction image)
      ∷ leb (string_offset image) (length image)
      ∷ [])
      (k 3)
      in
      record {
        low = leb-true sections_at (length image) (k 0);
        high = leb-true (length image) 65536 (k 1);
        total = eqb-true (total_length image) (length image) (c 0);
        connects = leb-true (rule_count Connect image) 256 (c 1);
        owns = leb-true (rule_count Own image) 256 (c 2);
        transactions = leb-true (rule_count Transaction image) 512 (c 3);
        connects_at = eqb-true (rule_offset Connect image) sections_at (s 0);
        owns_at = eqb-true (rule_offset Own image) (rules_end Connect image) (s 1);
        transactions_at = eqb-true (rule_offset Transaction image) (rules_end Own image) (s 2);
        strings_at = eqb-true (string_offset image) (rules_end Transaction image) (s 3);
        strings_inside = leb-true (string_offset image) (length image) (s 4);
      }

  pub header_passed : (h : Bool) → h ≡ good_header image → not h ≡ false → GoodImageHeader image
  header_passed h e n = header_holds (sym e ∙ not-false h n)

  -- ---- the sections

  rule_inside : GoodImageHeader image → (s : Section) (i : ℕ) → i < rule_count s image → rule_offset s image + rule_size s * i + rule_size s ≤ length image
  rule_inside h Connect i l = omega arith
  rule_inside h Own i l = omega arith
  rule_inside h Transaction i l = omega arith

  -- the loop over the section's rules, whose count the header has at c: it begins, and goes on to the next rule
  module _ (s : Section) (c : ℕ) (e : c ≡ rule_count_at s) where
    pub rules_begin : {n : ℕ} → n ≡ word_at Little image c → Testing (good_rule s image) (rule_count s image) n
    rules_begin q = begin (rw e at q)

    pub next_rule : GoodImageHeader image → {from i : ℕ} → from ≡ word_at Little image (c + 4) → Testing (good_rule s image) (rule_count s image) i → 0 < i
        → RuleAt image s from (i - 1)
    next_rule h {from} {i} q t l =
        let p : from ≡ rule_offset s image = rw e at q in
        record { start = p; inside = rw p (rule_inside h s (i - 1) (omega (arith, t.inside))) }

  -- ---- the image

  -- the parts of a good image
  pub each_part : good_image image ≡ true → (i : ℕ)
      → get_or (good_header image ∷ good_section Connect image ∷ good_section Own image ∷ good_section Transaction image ∷ []) i true ≡ true
  unfolding good_image
  each_part h = row_each true (good_header image ∷ good_section Connect image ∷ good_section Own image ∷ good_section Transaction image ∷ []) h

  pub image_holds : good_image image ≡ true → GoodImage image
  image_holds h = record { header = header_holds (each_part h 0); is = h }

  pub outcome_bad : outcome_of image ≡ Bad → good_image image ≡ false
  unfolding outcome_of
  outcome_bad h = go (good_image image) refl h
    where
      go : (b : Bool) → good_image image ≡ b → cond b Good Bad ≡ Bad → good_image image ≡ false
      go true e k = impossible cc
      go false e k = e

  pub outcome_holds : outcome_of image ≡ Good → GoodImage image
  unfolding outcome_of
  outcome_holds h = go (good_image image) refl h
    where
      go : (b : Bool) → good_image image ≡ b → cond b Good Bad ≡ Good → GoodImage image
      go true e k = image_holds e
      go false e k = impossible cc
