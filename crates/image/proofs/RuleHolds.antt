-- What holds of each rule of a good image: its bytes and its strings lie inside, its context is one of the four and its verdict one of the two.
use mathlib.Core.Path.{◌≡◌, refl}
use mathlib.Core.Logic.{⊎_elim}
use mathlib.Core.Bool.{Bool, true, false, cond, ◌&&◌, ◌||◌}
use mathlib.Core.List.{List, [], ◌∷◌}
use Prim.Native.Nat.{ℕ, ◌+◌, ◌≤◌, ◌<◌}
use native.Mathlib.Omega.{arith}
use lib.Dec.{leb, eqb}
use lib.ListN.{length}
use borrow.Author.Tests.{leb-true, eqb-true}
use Rattle.wire.proofs.Texts.{both_first, both_second, either}
use Rattle.wire.proofs.Below.{row_each, below_at}
use Rattle.names.specs.Names.{valid_name}
use Rattle.names.specs.declared.Form.{Form}
use Rattle.names.specs.declared.Form.TheVariants.{Interface, WellKnown, Member, Path}
use Rattle.image.specs.Image.{rule_count, rule_size, rule_place, string_offset}
use Rattle.image.specs.Rules.{Span, text_of, PolicyRule, policy_rule}
use Rattle.image.specs.Good.{good_string, good_or_any, good_owned, good_subject, good_matcher, good_connect_rule, good_own_rule, good_strings}
use Rattle.image.specs.Good.{good_transaction_rule, good_rule}
use Rattle.image.specs.Promises.{GoodImage}
use Rattle.image.specs.declared.Section.{Section}
use Rattle.image.specs.declared.Section.TheVariants.{Connect, Own, Transaction}
use Rattle.image.proofs.Holds.{each_part}

-- ---- strings

-- the string lies inside the image
abbrev pub Inside : List ℕ → Span → Type 0
Inside image s = string_offset image + s.offset + s.len ≤ length image

module _ (image : List ℕ) (s : Span) where
  string_inside : (form : Form) → good_string form image s ≡ true → Inside image s
  unfolding good_string
  string_inside form h =
      leb-true (string_offset image + s.offset + s.len) (length image)
      (both_first (leb (string_offset image + s.offset + s.len) (length image)) (valid_name form (text_of image s)) h)

  module _ (l : string_offset image ≤ length image) where
    or_any_inside : (form : Form) → good_or_any form image s ≡ true → Inside image s
    unfolding good_or_any
    or_any_inside form h = go (eqb s.len 0) refl h
      where
        go : (b : Bool) → eqb s.len 0 ≡ b → cond b (eqb s.offset 0) (good_string form image s) ≡ true → Inside image s
        go true e k = omega (arith, eqb-true)
        go false e k = string_inside form k

    -- what the test of an own rule with a matcher m says
    owned_inside : (m : ℕ) → cond (eqb m 0) (eqb s.offset 0 && eqb s.len 0) (good_string WellKnown image s) ≡ true → Inside image s
    owned_inside m h = go (eqb m 0) h
      where
        go : (b : Bool) → cond b (eqb s.offset 0 && eqb s.len 0) (good_string WellKnown image s) ≡ true → Inside image s
        go true k =
            let o = eqb-true s.offset 0 (both_first (eqb s.offset 0) (eqb s.len 0) k) in
            let z = eqb-true s.len 0 (both_second (eqb s.offset 0) (eqb s.len 0) k) in
            omega arith
        go false k = string_inside WellKnown k

-- ---- rules

matcher_verdict : (r : PolicyRule) → good_matcher r ≡ true → r.verdict ≤ 1
matcher_verdict r h = leb-true r.verdict 1 (both_first (leb r.verdict 1) _ (both_first _ (eqb r.reserved 0) h))

pub record ConnectHolds (image : List ℕ) (i : ℕ) : Type 0 where
  pub context : (policy_rule Connect image i).context ≤ 3
  pub verdict : (policy_rule Connect image i).verdict ≤ 1

connect_holds : {image : List ℕ} → GoodImage image → (i : ℕ) → i < rule_count Connect image → ConnectHolds image i
unfolding good_rule good_connect_rule
connect_holds {image} g i l =
    let r = policy_rule Connect image i in
    let k =
    row_each
    true
    ((eqb r.context 0 || eqb r.context 3) ∷ good_matcher r ∷ (leb 1 r.matcher || eqb r.id 0) ∷ [])
    (below_at (good_rule Connect image) (rule_count Connect image) (each_part image g.is 1) i l)
    in
    record {
      context =
          ⊎_elim
          (λ (e : eqb r.context 0 ≡ true). omega (arith, eqb-true))
          (λ (e : eqb r.context 3 ≡ true). omega (arith, eqb-true))
          (either (eqb r.context 0) (eqb r.context 3) (k 0));
      verdict = matcher_verdict r (k 1);
    }

subject_context : (r : PolicyRule) → good_subject r ≡ true → r.context ≤ 3
subject_context r h =
    leb-true r.context 3 (both_first (leb r.context 3) (eqb r.context 1 || eqb r.context 2 || eqb r.subject 0) h)

pub record OwnHolds (image : List ℕ) (i : ℕ) : Type 0 where
  pub place : rule_place Own image i + rule_size Own ≤ length image
  pub context : (policy_rule Own image i).context ≤ 3
  pub verdict : (policy_rule Own image i).verdict ≤ 1
  pub name : Inside image (policy_rule Own image i).name

pub own_holds : {image : List ℕ} → GoodImage image → (i : ℕ) → i < rule_count Own image → OwnHolds image i
unfolding good_rule good_own_rule good_owned
own_holds {image} g i l =
    let r = policy_rule Own image i in
    let k =
    row_each
    true
    (good_subject r ∷ good_matcher r ∷ good_owned image r ∷ [])
    (below_at (good_rule Own image) (rule_count Own image) (each_part image g.is 2) i l)
    in
    record {
      place = omega arith;
      context = subject_context r (k 0);
      verdict = matcher_verdict r (k 1);
      name = owned_inside image r.name g.header.strings_inside r.matcher (k 2);
    }

pub record TransactionHolds (image : List ℕ) (i : ℕ) : Type 0 where
  pub place : rule_place Transaction image i + rule_size Transaction ≤ length image
  pub context : (policy_rule Transaction image i).context ≤ 3
  pub verdict : (policy_rule Transaction image i).verdict ≤ 1
  pub name : Inside image (policy_rule Transaction image i).name
  pub path : Inside image (policy_rule Transaction image i).path
  pub interface : Inside image (policy_rule Transaction image i).interface
  pub member : Inside image (policy_rule Transaction image i).member

pub transaction_holds : {image : List ℕ} → GoodImage image → (i : ℕ) → i < rule_count Transaction image → TransactionHolds image i
unfolding good_rule good_transaction_rule good_strings
transaction_holds {image} g i l =
    let r = policy_rule Transaction image i in
    let k =
    row_each
    true
    (good_subject r
    ∷ leb r.verdict 1
    ∷ leb r.direction 1
    ∷ (eqb r.type 0 || eqb r.type 1 || eqb r.type 4)
    ∷ good_strings image r
    ∷ [])
    (below_at (good_rule Transaction image) (rule_count Transaction image) (each_part image g.is 3) i l)
    in
    let s =
    row_each
    true
    (good_or_any WellKnown image r.name
    ∷ good_or_any Path image r.path
    ∷ good_or_any Interface image r.interface
    ∷ good_or_any Member image r.member
    ∷ [])
    (k 4)
    in
    let in_image = g.header.strings_inside in
    record {
      place = omega arith;
      context = subject_context r (k 0);
      verdict = leb-true r.verdict 1 (k 1);
      name = or_any_inside image r.name in_image WellKnown (s 0);
      path = or_any_inside image r.path in_image Path (s 1);
      interface = or_any_inside image r.interface in_image Interface (s 2);
      member = or_any_inside image r.member in_image Member (s 3);
    }

-- a rule of any section has one of the four contexts, and one of the two verdicts
module _ {image : List ℕ} (g : GoodImage image) where
  pub rule_context : (s : Section) (i : ℕ) → i < rule_count s image → (policy_rule s image i).context ≤ 3
  rule_context Connect i l = (connect_holds g i l).context
  rule_context Own i l = (own_holds g i l).context
  rule_context Transaction i l = (transaction_holds g i l).context

  pub rule_verdict_lem : (s : Section) (i : ℕ) → i < rule_count s image → (policy_rule s image i).verdict ≤ 1
  rule_verdict_lem Connect i l = (connect_holds g i l).verdict
  rule_verdict_lem Own i l = (own_holds g i l).verdict
  rule_verdict_lem Transaction i l = (transaction_holds g i l).verdict
