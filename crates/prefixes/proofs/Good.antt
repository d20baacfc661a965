-- A new image is good and has no prefix rule.
use mathlib.Core.Path.{◌≡◌, refl, ap, ◌∙◌}
use mathlib.Core.Bool.{Bool, true, false, cond, not, ◌&&◌, ◌||◌}
use mathlib.Core.List.{List, [], ◌∷◌}
use Prim.Native.Nat.{ℕ, ◌+◌, ◌<◌}
use native.Mathlib.Omega.{arith}
use lib.Dec.{leb, eqb}
use lib.ListN.{length, take, drop}
use borrow.Author.Tests.{leb-true, le-leb, eq-eqb}
use Rattle.wire.proofs.Below.{row_each, below_at, below_all}
use Rattle.wire.proofs.Texts.{both_first, both_second, both_true}
use Rattle.names.specs.Names.{valid_name}
use Rattle.names.specs.declared.Form.{Form}
use Rattle.names.specs.declared.Form.TheVariants.{Interface, WellKnown, Member, Path}
use Rattle.image.specs.Image.{sections_at, total_length, rule_count, rule_offset, rule_place, rules_end, string_offset}
use Rattle.image.specs.Rules.{Span, text_of, PolicyRule, rule_from, policy_rule}
use Rattle.image.specs.Good.{good_counts, good_sections, good_header, good_string, good_or_any, good_owned, good_subject, good_matcher, good_connect_rule, good_own_rule}
use Rattle.image.specs.Good.{good_strings, good_transaction_rule, good_rule, good_section, good_image, is_prefix_rule, no_prefix, without_prefixes}
use Rattle.image.specs.Promises.{GoodImage}
use Rattle.image.specs.declared.Section.{Section}
use Rattle.image.specs.declared.Section.TheVariants.{Connect, Own, Transaction}
use Rattle.image.proofs.Holds.{each_part}
use Rattle.image.proofs.RuleHolds.{Inside}
use Rattle.prefixes.specs.Names.{good_list}
use Rattle.prefixes.specs.Copies.{Copy, copies}
use Rattle.prefixes.specs.Converted.{own_bytes, exact, new_owns, new_length, converted}
use Rattle.prefixes.proofs.Rows.{Each, each_at, rows_each}
use Rattle.prefixes.proofs.Laid.{Small, own_long, new_long, total_is, connects_are, connects_start, owns_are, owns_start}
use Rattle.prefixes.proofs.Laid.{transactions_are, transactions_start, strings_start, own_row}
use Rattle.prefixes.proofs.Texts.{copy_span, Added, inside_kept, text_kept, texts_added}
use Rattle.prefixes.proofs.Fields.{ConnectAlike, OwnAlike, own_alike, exact_rule, exact_alike}
use Rattle.prefixes.proofs.Kept.{connect_rule, transaction_rule}

-- ---- rules that say the same are good alike

connect_good : (r q : PolicyRule) → ConnectAlike r q → good_connect_rule q ≡ true → good_connect_rule r ≡ true
unfolding good_connect_rule
connect_good r q k e = rw (k.context, k.verdict, k.matcher, k.reserved, k.id) e

own_good : (image : List ℕ) (r q : PolicyRule) → OwnAlike r q → good_own_rule image q ≡ true → good_own_rule image r ≡ true
unfolding good_own_rule good_owned
own_good image r q k e = rw (k.context, k.verdict, k.matcher, k.reserved, k.subject, k.name) e

module _ (image list : List ℕ) (g : GoodImage image) (s : Small image list) where
  abbrev new : List ℕ
  new = converted image list

  -- rule i of the old image is good
  old_good : (t : Section) (i : ℕ) → i < rule_count t image → good_rule t image i ≡ true
  old_good Connect i l = below_at (good_rule Connect image) (rule_count Connect image) (each_part image g.is 1) i l
  old_good Own i l = below_at (good_rule Own image) (rule_count Own image) (each_part image g.is 2) i l
  old_good Transaction i l = below_at (good_rule Transaction image) (rule_count Transaction image) (each_part image g.is 3) i l

  -- ---- the header

  header_good : good_header new ≡ true
  unfolding good_header good_counts good_sections
  header_good =
      let h = g.header in
      let l : length new ≡ new_length image list = new_long image list h in
      let t : total_length new ≡ new_length image list = total_is image list h s in
      let c = connects_are image list h s in
      let cs = connects_start image list h s in
      let o = owns_are image list h s in
      let os = owns_start image list h s in
      let n = transactions_are image list h s in
      let ns = transactions_start image list h s in
      let ss = strings_start image list h s in
      rw (
        le-leb sections_at (length new) (omega arith),
        le-leb (length new) 65536 (omega (arith, s.total)),
        eq-eqb (total_length new) (length new) (omega arith),
        le-leb (rule_count Connect new) 256 (omega arith),
        le-leb (rule_count Own new) 256 (omega (arith, s.owns)),
        le-leb (rule_count Transaction new) 512 (omega arith),
        eq-eqb (rule_offset Connect new) sections_at (omega arith),
        eq-eqb (rule_offset Own new) (rules_end Connect new) (omega arith),
        eq-eqb (rule_offset Transaction new) (rules_end Own new) (omega arith),
        eq-eqb (string_offset new) (rules_end Transaction new) (omega arith),
        le-leb (string_offset new) (length new) (omega arith),
      )

  -- ---- strings

  string_good : (form : Form) (t : Span) → good_string form image t ≡ true → good_string form new t ≡ true
  unfolding good_string
  string_good form t e =
      let i : Inside image t = leb-true (string_offset image + t.offset + t.len) (length image)
      (both_first (leb (string_offset image + t.offset + t.len) (length image)) (valid_name form (text_of image t)) e) in
      let v = both_second (leb (string_offset image + t.offset + t.len) (length image)) (valid_name form (text_of image t)) e in
      both_true (leb (string_offset new + t.offset + t.len) (length new)) (valid_name form (text_of new t))
      (le-leb (string_offset new + t.offset + t.len) (length new) (inside_kept image list g.header s t i))
      (ap (valid_name form) (text_kept image list g.header s t i) ∙ v)

  or_any_good : (form : Form) (t : Span) → good_or_any form image t ≡ true → good_or_any form new t ≡ true
  unfolding good_or_any
  or_any_good form t e = go (eqb t.len 0) e
    where
      go : (b : Bool) → cond b (eqb t.offset 0) (good_string form image t) ≡ true → cond b (eqb t.offset 0) (good_string form new t) ≡ true
      go true k = k
      go false k = string_good form t k

  owned_good : (r : PolicyRule) → good_owned image r ≡ true → good_owned new r ≡ true
  unfolding good_owned
  owned_good r e = go (eqb r.matcher 0) e
    where
      none : Bool
      none = eqb r.name.offset 0 && eqb r.name.len 0

      go : (b : Bool) → cond b none (good_string WellKnown image r.name) ≡ true → cond b none (good_string WellKnown new r.name) ≡ true
      go true k = k
      go false k = string_good WellKnown r.name k

  -- ---- connect and transaction rules

  connects_good : good_section Connect new ≡ true
  unfolding good_rule
  connects_good =
      below_all (good_rule Connect new) (rule_count Connect new)
      (λ i l.
      let k : i < rule_count Connect image = omega (arith, connects_are image list g.header s) in
      connect_good (policy_rule Connect new i) (policy_rule Connect image i) (connect_rule image list g s i k) (old_good Connect i k))

  transaction_good : (r : PolicyRule) → good_transaction_rule image r ≡ true → good_transaction_rule new r ≡ true
  unfolding good_transaction_rule good_strings
  transaction_good r e =
      let types = eqb r.type 0 || eqb r.type 1 || eqb r.type 4 in
      let k = row_each true (good_subject r ∷ leb r.verdict 1 ∷ leb r.direction 1 ∷ types ∷ good_strings image r ∷ []) e in
      let t = row_each true
      (good_or_any WellKnown image r.name ∷ good_or_any Path image r.path ∷ good_or_any Interface image r.interface
      ∷ good_or_any Member image r.member ∷ []) (k 4) in
      rw (
        k 0,
        k 1,
        k 2,
        k 3,
        or_any_good WellKnown r.name (t 0),
        or_any_good Path r.path (t 1),
        or_any_good Interface r.interface (t 2),
        or_any_good Member r.member (t 3),
      )

  transactions_good : good_section Transaction new ≡ true
  unfolding good_rule
  transactions_good =
      below_all (good_rule Transaction new) (rule_count Transaction new)
      (λ i l.
      let k : i < rule_count Transaction image = omega (arith, transactions_are image list g.header s) in
      ap (good_transaction_rule new) (transaction_rule image list g s i k)
      ∙ transaction_good (policy_rule Transaction image i) (old_good Transaction i k))

  -- ---- own rules

  -- a good own rule that is made exact is good
  exact_good : (r : PolicyRule) (c : Copy) → Added image list c → good_own_rule image r ≡ true → good_own_rule new (exact_rule r (copy_span c)) ≡ true
  unfolding good_own_rule good_owned good_string
  exact_good r c a e =
      let k = row_each true (good_subject r ∷ good_matcher r ∷ good_owned image r ∷ []) e in
      let m = row_each true (leb r.verdict 1 ∷ leb r.matcher 2 ∷ eqb r.reserved 0 ∷ []) (k 1) in
      rw (
        k 0,
        m 0,
        m 2,
        le-leb (string_offset new + c.offset + length c.name) (length new) a.inside,
        a.text,
        a.valid,
      )

  -- a row makes a good rule, which is about no prefix
  abbrev Makes : List ℕ → Type 0
  Makes row = (a : ℕ) → take 16 (drop a new) ≡ row → (good_own_rule new (rule_from new a) ≡ true) × (is_prefix_rule (rule_from new a) ≡ false)

  kept_makes : (i : ℕ) → i < rule_count Own image → is_prefix_rule (policy_rule Own image i) ≡ false → Makes (own_bytes image i)
  unfolding good_rule good_own_rule
  kept_makes i l p a e =
      let r = policy_rule Own image i in
      let k = own_alike new image a (rule_place Own image i) e in
      let o = row_each true (good_subject r ∷ good_matcher r ∷ good_owned image r ∷ []) (old_good Own i l) in
      (own_good new (rule_from new a) r k (rw (o 0, o 1, owned_good r (o 2))), rw k.matcher p)

  made_makes : (i : ℕ) → i < rule_count Own image → (c : Copy) → Added image list c → Makes (exact (own_bytes image i) c.offset (length c.name))
  unfolding good_rule
  made_makes i l c q a e =
      let r = policy_rule Own image i in
      let n : length new ≡ new_length image list = new_long image list g.header in
      let k =
      exact_alike (own_bytes image i) c.offset (length c.name) (own_long image list g.header i l)
      (omega (arith, q.inside, s.total)) (omega (arith, q.inside, s.total)) new image a (rule_place Own image i) e refl
      in
      (own_good new (rule_from new a) (exact_rule r (copy_span c)) k (exact_good r c q (old_good Own i l)), rw k.matcher)

  module _ (l : good_list list ≡ true) where
    rows_make : Each Makes (new_owns image list)
    rows_make =
        rows_each image (Added image list) Makes (copies image list) (texts_added image list g.header s l) (rule_count Own image) kept_makes
        (λ i k p c q u. made_makes i k c q)

    own_made : (i : ℕ) → i < rule_count Own new
        → (good_own_rule new (policy_rule Own new i) ≡ true) × (is_prefix_rule (policy_rule Own new i) ≡ false)
    own_made i k =
        let j : i < length (new_owns image list) = omega (arith, owns_are image list g.header s) in
        each_at Makes [] (new_owns image list) rows_make i j (rule_place Own new i) (own_row image list g.header s i j)

    owns_good : good_section Own new ≡ true
    unfolding good_rule
    owns_good = below_all (good_rule Own new) (rule_count Own new) (λ i k. (own_made i k).0)

    -- the new image is good
    pub new_good : good_image new ≡ true
    unfolding good_image
    new_good = rw (header_good, connects_good, owns_good, transactions_good)

    -- and has no prefix rule
    pub new_exact : without_prefixes new ≡ true
    unfolding without_prefixes
    new_exact = below_all (no_prefix new) (rule_count Own new) (λ i k. ap not (own_made i k).1)
