-- The loops that count the own rules which cover a name, and those which are about no prefix.
use mathlib.Core.Path.{◌≡◌, refl, sym, ◌∙◌}
use mathlib.Core.Bool.{Bool, true, false, ◌&&◌}
use mathlib.Core.List.{List}
use Prim.Native.Nat.{ℕ, ◌+◌, ◌*◌, ◌≤◌, ◌<◌}
use native.Mathlib.Numerals.{add-one}
use native.Mathlib.Omega.{arith}
use lib.ListN.{length, get_or}
use borrow.Author.Rules.{rules}
use borrow.Author.Tests.{eq-eqb, ne_eqb}
use Rattle.names.specs.Namespace.{in_namespace}
use Rattle.image.specs.Image.{matcher_byte, name_span, rule_count, rule_offset, rule_size, string_offset}
use Rattle.image.specs.Rules.{span_at, text_of, rule_from}
use Rattle.image.specs.Good.{is_prefix_rule, no_prefix}
use Rattle.image.specs.Promises.{GoodImage, Cites}
use Rattle.image.specs.declared.Section.TheVariants.{Own}
use Rattle.image.proofs.RuleHolds.{own_holds}
use Rattle.prefixes.specs.Copies.{covers}
use Rattle.retire.specs.Counting.{count_below}

-- ---- one rule

module _ (image : List ℕ) (at : ℕ) (name : List ℕ) where
  pub is_prefix_lem : get_or image (at + matcher_byte) 0 ≡ 2 → (text : List ℕ) → text ≡ text_of image (span_at image (at + name_span))
      → (r : Bool) → r ≡ in_namespace text name
      → r ≡ is_prefix_rule (rule_from image at) && in_namespace (text_of image (rule_from image at).name) name
  is_prefix_lem m text e r q = q ∙ rw (eq-eqb (get_or image (at + matcher_byte) 0) 2 m, e)

  pub is_none : (get_or image (at + matcher_byte) 0 ≡ 2 → ⊥)
      → false ≡ is_prefix_rule (rule_from image at) && in_namespace (text_of image (rule_from image at).name) name
  is_none m = rw (ne_eqb (get_or image (at + matcher_byte) 0) 2 m)

pub ruleset one_rule = (is_prefix_lem, is_none, rules)

-- ---- counting

-- those below i are counted
pub record Counted (p : ℕ → Bool) (n found i : ℕ) : Type 0 where
  pub inside : i ≤ n
  pub few : found ≤ i
  pub is : found ≡ count_below p i

module _ {p : ℕ → Bool} {n found i : ℕ} (t : Counted p n found i) where
  counted_all : {m : ℕ} → n ≡ m → n ≤ i → found ≡ count_below p m
  counted_all q h = let e : i ≡ n = omega (arith, t.inside) in t.is ∙ rw (e, q)

  module _ (h : i < n) where
    counts : p i ≡ true → Counted p n (found + 1) (i + 1)
    unfolding count_below
    counts e = record { inside = omega arith; few = omega (arith, t.few); is = rw (add-one i, e, t.is) }

    skips : p i ≡ false → Counted p n found (i + 1)
    unfolding count_below
    skips e = record { inside = omega arith; few = omega (arith, t.few); is = rw (add-one i, e) t.is }

pub count_begins : {p : ℕ → Bool} {n : ℕ} → Counted p n 0 0
unfolding count_below
count_begins = record { inside = omega arith; few = omega arith; is = refl }

-- how far the loop has come that counts the rules which cover the name, and the one that counts those which stay
pub record Covering (image name : List ℕ) (n found i : ℕ) : Type 0 where
  pub counted : Counted (λ k. covers image k name) n found i

pub record Keeping (image : List ℕ) (n found i : ℕ) : Type 0 where
  pub counted : Counted (no_prefix image) n found i

pub covering_begins : {image name : List ℕ} {n : ℕ} → Covering image name n 0 0
covering_begins = record { counted = count_begins }

pub keeping_begins : {image : List ℕ} {n : ℕ} → Keeping image n 0 0
keeping_begins = record { counted = count_begins }

module _ {image : List ℕ} {n : ℕ} (g : GoodImage image) (q : n ≡ rule_count Own image) {i : ℕ} where
  -- rule i, at its place
  module _ {from : ℕ} (o : from ≡ rule_offset Own image) (h : i < n) where
    in_image : i < rule_count Own image
    in_image = omega (arith, q)

    pub rule_cites : {strings : ℕ} → strings ≡ string_offset image → Cites image strings (from + rule_size Own * i + name_span)
    rule_cites a =
        let k = own_holds g i in_image in
        record { area = a; inside = rw o (omega (arith, k.place)); text = rw o k.name }

    pub matcher_inside : from + rule_size Own * i + matcher_byte < length image
    matcher_inside = omega (arith, (own_holds g i in_image).place, o)

-- every rule is counted
module _ {image : List ℕ} {n found i : ℕ} where
  few_found : {p : ℕ → Bool} → Counted p n found i → n ≤ i → GoodImage image → n ≡ rule_count Own image
      → (found ≡ count_below p (rule_count Own image)) × (found ≤ 256)
  few_found t h g q = (counted_all t q h, omega (arith, t.few, t.inside, g.header.owns, q))

  pub covering_ends : {name : List ℕ} → Covering image name n found i → n ≤ i → GoodImage image → n ≡ rule_count Own image
      → (found ≡ count_below (λ k. covers image k name) (rule_count Own image)) × (found ≤ 256)
  covering_ends t = few_found t.counted

  pub keeping_ends : Keeping image n found i → n ≤ i → GoodImage image → n ≡ rule_count Own image
      → (found ≡ count_below (no_prefix image) (rule_count Own image)) × (found ≤ 256)
  keeping_ends t = few_found t.counted

module _ {image : List ℕ} {n found i from : ℕ} (o : from ≡ rule_offset Own image) (h : i < n) where
  module _ {name : List ℕ} (t : Covering image name n found i) {r : Bool}
      (e : r ≡ is_prefix_rule (rule_from image (from + rule_size Own * i))
      && in_namespace (text_of image (rule_from image (from + rule_size Own * i)).name) name) where
    covers_is : covers image i name ≡ r
    covers_is = sym (rw o at e)

    pub covering_more : r ≡ true → Covering image name n (found + 1) (i + 1)
    covering_more f = record { counted = counts t.counted h (covers_is ∙ f) }

    pub covering_skip : r ≡ false → Covering image name n found (i + 1)
    covering_skip f = record { counted = skips t.counted h (covers_is ∙ f) }

  module _ (t : Keeping image n found i) where
    pub keeping_more : (get_or image (from + rule_size Own * i + matcher_byte) 0 ≡ 2 → ⊥) → Keeping image n (found + 1) (i + 1)
    keeping_more f =
        let m = get_or image (from + rule_size Own * i + matcher_byte) 0 in
        record { counted = counts t.counted h (rw (← o, ne_eqb m 2 f)) }

    pub keeping_skip : get_or image (from + rule_size Own * i + matcher_byte) 0 ≡ 2 → Keeping image n found (i + 1)
    keeping_skip f =
        let m = get_or image (from + rule_size Own * i + matcher_byte) 0 in
        record { counted = skips t.counted h (rw (← o, eq-eqb m 2 f)) }

pub ruleset covering = (covering_begins, rule_cites, covering_more, covering_skip, rules)

pub ruleset keeping = (keeping_begins, matcher_inside, keeping_more, keeping_skip, rules)
