-- Lists by their tests: one of them passes, each passes, and each stands once.
use mathlib.Core.Path.{◌≡◌, refl}
use mathlib.Core.Logic.{◌⊎◌, inl, inr}
use mathlib.Core.Bool.{Bool, true, false, not, ◌&&◌, false≢true}
use mathlib.Core.List.{List, [], ◌∷◌, ◌++◌}
use borrow.Author.Tests.{not-true}
use Rattle.wire.specs.Lists.{any, distinct}
use Rattle.wire.proofs.Texts.{both_first, both_second, either}
use Rattle.wire.proofs.Tests.{clash, or_left, or_right, or_grow, refute}
use Rattle.rules.proofs.Fewer.{Fewer, none, skip, keep}

-- ---- one of them passes

module _ {A : Type 0} (t : A → Bool) where
  pub any_snoc : (xs : List A) (v : A) → any t (xs ++ (v ∷ [])) ≡ true → (any t xs ≡ true) ⊎ (t v ≡ true)
  any_snoc [] v h = elim (either (t v) false h) [ inl e ↦ inr e | inr e ↦ inl e ]
  any_snoc (x ∷ xs) v h =
      elim (either (t x) (any t (xs ++ (v ∷ []))) h) [
        | inl e ↦ inl (or_left (t x) (any t xs) e)
        | inr e ↦ elim (any_snoc xs v e) [ inl p ↦ inl (or_right (t x) (any t xs) p) | inr p ↦ inr p ]
      ]

  pub any_fewer : {xs ys : List A} → Fewer xs ys → any t ys ≡ true → any t xs ≡ true
  any_fewer none h = h
  any_fewer (skip {x = x} {xs = xs} f) h = or_right (t x) (any t xs) (any_fewer f h)
  any_fewer (keep {x = x} {xs = xs} {ys = ys} f) h = or_grow (t x) (any t ys) (any t xs) (any_fewer f) h

-- ---- each passes, and stands once

module _ {A : Type 0} (t : A → Bool) (is : A → A → Bool) where
  module _ (x : A) (xs : List A) (e : distinct t is (x ∷ xs) ≡ true) where
    first_both : t x && not (any (is x) xs) ≡ true
    unfolding distinct
    first_both = both_first (t x && not (any (is x) xs)) (distinct t is xs) e

    pub first_good : t x ≡ true
    first_good = both_first (t x) (not (any (is x) xs)) first_both

    pub first_once : any (is x) xs ≡ false
    first_once = not-true (any (is x) xs) (both_second (t x) (not (any (is x) xs)) first_both)

    pub rest_distinct : distinct t is xs ≡ true
    unfolding distinct
    rest_distinct = both_second (t x && not (any (is x) xs)) (distinct t is xs) e

  distinct_cons : (x : A) (xs : List A) → t x ≡ true → any (is x) xs ≡ false → distinct t is xs ≡ true → distinct t is (x ∷ xs) ≡ true
  unfolding distinct
  distinct_cons x xs a b c = rw (a, b) c

  -- one more, which is none of them
  pub distinct_snoc : (v : A) → t v ≡ true → ((x : A) → is x v ≡ true → is v x ≡ true)
      → (xs : List A) → distinct t is xs ≡ true → any (is v) xs ≡ false → distinct t is (xs ++ (v ∷ [])) ≡ true
  unfolding distinct
  distinct_snoc v p turn [] e n = rw p
  distinct_snoc v p turn (x ∷ xs) e n =
      distinct_cons x (xs ++ (v ∷ [])) (first_good x xs e)
      (refute (any (is x) (xs ++ (v ∷ [])))
      (λ h. elim (any_snoc (is x) xs v h)
      [ inl q ↦ clash q (first_once x xs e) | inr q ↦ clash (or_left (is v x) (any (is v) xs) (turn x q)) n ]))
      (distinct_snoc v p turn xs (rest_distinct x xs e) (refute (any (is v) xs) (λ h. clash (or_right (is v x) (any (is v) xs) h) n)))

  pub distinct_fewer : {xs ys : List A} → Fewer xs ys → distinct t is xs ≡ true → distinct t is ys ≡ true
  distinct_fewer none e = e
  distinct_fewer (skip {x = x} {xs = xs} f) e = distinct_fewer f (rest_distinct x xs e)
  distinct_fewer (keep {x = x} {xs = xs} {ys = ys} f) e =
      distinct_cons x ys (first_good x xs e) (refute (any (is x) ys) (λ h. clash (any_fewer (is x) f h) (first_once x xs e)))
      (distinct_fewer f (rest_distinct x xs e))

  -- what one of them is asked, where it passes another test
  pub distinct_any : (P : Type 0) (u : A → Bool) → ((x : A) → t x ≡ true → u x ≡ true → P) → (xs : List A) → distinct t is xs ≡ true → any u xs ≡ true → P
  distinct_any P u f [] e h = absurd (false≢true h)
  distinct_any P u f (x ∷ xs) e h =
      elim (either (u x) (any u xs) h) [ inl p ↦ f x (first_good x xs e) p | inr p ↦ distinct_any P u f xs (rest_distinct x xs e) p ]

  -- another test that each of them passes
  pub distinct_pass : (u : A → Bool) → ((x : A) → is x x ≡ true)
      → (xs : List A) → distinct t is xs ≡ true → ((x : A) → t x ≡ true → any (is x) xs ≡ true → u x ≡ true) → distinct u is xs ≡ true
  unfolding distinct
  distinct_pass u own [] e f = refl
  distinct_pass u own (x ∷ xs) e f =
      rw (f x (first_good x xs e) (or_left (is x x) (any (is x) xs) (own x)), first_once x xs e)
      (distinct_pass u own xs (rest_distinct x xs e) (λ y p q. f y p (or_right (is y x) (any (is y) xs) q)))
