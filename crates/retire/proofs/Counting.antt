-- How many own rules a conversion makes: those that stay, and one for each rule and listed name that it covers.
use mathlib.Core.Path.{◌≡◌, refl, sym, ap, ◌∙◌}
use mathlib.Core.Bool.{Bool, true, false, not, cond, ◌&&◌, and-false, and-true}
use mathlib.Core.List.{List, [], ◌∷◌}
use Prim.Native.Nat.{ℕ, zero, suc, ◌+◌}
use native.Mathlib.Omega.{arith}
use lib.Dec.{ltb}
use lib.ListN.{length, length-append, length-map}
use borrow.Author.Tests.{lt-ltb, ltb-false}
use Rattle.wire.specs.Lists.{below}
use Rattle.names.specs.Namespace.{in_namespace}
use Rattle.image.specs.Image.{rule_count}
use Rattle.image.specs.Rules.{policy_rule}
use Rattle.image.specs.Good.{is_prefix_rule, no_prefix}
use Rattle.image.specs.declared.Section.TheVariants.{Own}
use Rattle.prefixes.specs.Names.{listed}
use Rattle.prefixes.specs.Copies.{passing, own_text, covers, covered, added, Copy, copies_from}
use Rattle.prefixes.specs.Converted.{own_bytes, exact, exacts, becomes, become_all, new_owns}
use Rattle.retire.specs.Counting.{count_below}

-- the sum of a number over a list
unfoldable pub total : (List ℕ → ℕ) → List (List ℕ) → ℕ
total f [] = 0
total f (x ∷ xs) = f x + total f xs

total_zero : (xs : List (List ℕ)) → total (λ x. 0) xs ≡ 0
unfolding total
total_zero [] = refl
total_zero (x ∷ xs) = omega (arith, total_zero xs)

-- what is not passing adds nothing
total_passing : (p : List ℕ → Bool) (f : List ℕ → ℕ) → ((x : List ℕ) → p x ≡ false → f x ≡ 0) → (xs : List (List ℕ)) → total f (passing p xs) ≡ total f xs
unfolding total passing
total_passing p f z [] = refl
total_passing p f z (x ∷ xs) = go (p x) refl (total_passing p f z xs)
  where
    go : (b : Bool) → p x ≡ b → total f (passing p xs) ≡ total f xs → total f (cond b (x ∷ passing p xs) (passing p xs)) ≡ f x + total f xs
    go true e h = ap (λ (n : ℕ). f x + n) h
    go false e h = omega (arith, z x e)

-- ---- one rule

one_counted : {A : Type 0} (b : Bool) (n : ℕ) (c : A) (rest : List A) (s : ℕ) {k : ℕ} → s + length rest ≡ k
    → n + s + length (cond b (c ∷ rest) rest) ≡ cond b (n + 1) n + k
one_counted true n c rest s h = omega arith
one_counted false n c rest s h = omega arith

-- one more for each name that is passing
passing_counted : (t : List ℕ → Bool) (f : List ℕ → ℕ) (o : ℕ) (xs : List (List ℕ))
    → total f xs + length (passing (λ (c : Copy). t c.name) (copies_from o xs)) ≡ total (λ x. cond (t x) (f x + 1) (f x)) xs
unfolding total passing copies_from
passing_counted t f o [] = omega arith
passing_counted t f o (x ∷ xs) =
    one_counted (t x) (f x) (record { offset = o; name = x }) (passing (λ (c : Copy). t c.name) (copies_from (o + length x) xs))
    (total f xs)
    (passing_counted t f (o + length x) xs)

-- a rule, behind c that are counted and k x for each name x
rule_counted : (b : Bool) (rule prefix : List ℕ) (o : ℕ) (xs : List (List ℕ)) (c : ℕ) (k : List ℕ → ℕ)
    → c + total k xs + length (cond b (exacts rule prefix (copies_from o xs)) (rule ∷ []))
    ≡ cond (not b) (c + 1) c + total (λ x. cond (b && in_namespace prefix x) (k x + 1) (k x)) xs
unfolding exacts
rule_counted true rule prefix o xs c k =
    let cs = passing (λ (c : Copy). in_namespace prefix c.name) (copies_from o xs) in
    omega (arith, passing_counted (in_namespace prefix) k o xs, length-map cs (λ (c : Copy). exact rule c.offset (length c.name)))
rule_counted false rule prefix o xs c k = omega arith

-- ---- all rules

module _ (image : List ℕ) where
  -- how many of the first n rules cover the name
  abbrev covering_below : ℕ → List ℕ → ℕ
  covering_below n x = count_below (λ i. covers image i x) n

  becomes_counted : (o : ℕ) (xs : List (List ℕ)) (n : ℕ)
      → length (become_all image (copies_from o xs) n) ≡ count_below (no_prefix image) n + total (covering_below n) xs
  unfolding become_all becomes count_below
  becomes_counted o xs zero = omega (arith, total_zero xs)
  becomes_counted o xs (suc n) =
      let cs = copies_from o xs in
      length-append (become_all image cs n) (becomes image cs n)
      ∙ ap (λ (m : ℕ). m + length (becomes image cs n)) (becomes_counted o xs n)
      ∙ rule_counted (is_prefix_rule (policy_rule Own image n)) (own_bytes image n) (own_text image n) o xs (count_below (no_prefix image) n) (covering_below n)

-- ---- the names that are added

-- some number passes where more than none are counted
some_counted : (p : ℕ → Bool) (n : ℕ) → not (below (λ i. not (p i)) n) ≡ ltb 0 (count_below p n)
unfolding count_below
some_counted p zero = refl
some_counted p (suc n) = go (p n) (some_counted p n)
  where
    go : (b : Bool) → not (below (λ i. not (p i)) n) ≡ ltb 0 (count_below p n)
        → not (below (λ i. not (p i)) n && not b) ≡ ltb 0 (cond b (count_below p n + 1) (count_below p n))
    go true h = rw and-false (sym (lt-ltb 0 (count_below p n + 1) (omega arith)))
    go false h = rw and-true h

module _ (image : List ℕ) where
  -- how many rules cover the name
  abbrev pub rules_of : List ℕ → ℕ
  rules_of x = covering_below image (rule_count Own image) x

  pub covered_counted : (x : List ℕ) → covered image x ≡ ltb 0 (rules_of x)
  unfolding covered
  covered_counted x = some_counted (λ i. covers image i x) (rule_count Own image)

  uncovered_none : (x : List ℕ) → covered image x ≡ false → rules_of x ≡ 0
  uncovered_none x e = omega (arith, ltb-false 0 (rules_of x) (sym (covered_counted x) ∙ e))

  -- the new own rules
  pub owns_counted : (list : List ℕ) → length (new_owns image list) ≡ count_below (no_prefix image) (rule_count Own image) + total rules_of (listed list)
  unfolding added
  owns_counted list =
      becomes_counted image _ (added image list) (rule_count Own image)
      ∙ ap (λ (m : ℕ). count_below (no_prefix image) (rule_count Own image) + m) (total_passing (covered image) rules_of uncovered_none (listed list))
