-- How deep the types of a signature are nested: the signature rule against the two numbers of a type.
use Rattle.std.proofs.Common.{◌≡◌, refl, sym, ◌∙◌, Bool, true, false, not, ◌&&◌, ◌||◌, List, [], ◌∷◌, ℕ, zero, suc, ◌+◌, ◌-◌, ◌*◌, ◌≤◌, min}
use Rattle.std.proofs.Common.{max, arith, leb, ltb, eqb, length, le-leb, leb-true, leb-false, ltb-true, ltb-false, ne_eqb, eqb-true}
use mathlib.Core.Bool.{and-false, and_assoc, false≢true}
use mathlib.Core.Option.{Option, none, some}
use borrow.Author.Tests.{lt-leb, not-true, not-false}
use Rattle.wire.specs.Bytes.{front}
use Rattle.wire.proofs.Texts.{agree}
use Rattle.signature.specs.Signature.{Row, basic, head_of, closed_by, tuple, dict_entry, one_more, one, row}
use Rattle.types.specs.Letters.{closes}
use Rattle.types.specs.Types.{behind}
use Rattle.types.specs.Nest.{kept, rest_of, fits, Nested}
use Rattle.types.proofs.Letters.{plain_closes, plain_opens, plain_array}
use Rattle.types.proofs.Behind.{close_last, open_one, array_on, letter_on, hops}

-- ---- room for arrays and parentheses

-- one more is open where there is room for it, and then there is room for the others
room_more : (n k : ℕ) → leb (min (n + 1) 33) (32 - k) ≡ ltb k 32 && leb n (32 - (k + 1))
room_more n k = go (ltb k 32) refl
  where
    go : (x : Bool) → ltb k 32 ≡ x → leb (min (n + 1) 33) (32 - k) ≡ x && leb n (32 - (k + 1))
    go true e =
        agree (leb (min (n + 1) 33) (32 - k)) (leb n (32 - (k + 1))) (λ t. le-leb n (32 - (k + 1)) (omega (arith, leb-true, ltb-true)))
        (λ t. le-leb (min (n + 1) 33) (32 - k) (omega (arith, leb-true, ltb-true)))
    go false e = lt-leb (min (n + 1) 33) (32 - k) (omega (arith, ltb-false))

-- the greater one fits where both do
room_most : (n m k : ℕ) → leb (max n m) k ≡ leb n k && leb m k
room_most n m k = go (leb n k) refl
  where
    go : (x : Bool) → leb n k ≡ x → leb (max n m) k ≡ x && leb m k
    go true e =
        agree (leb (max n m) k) (leb m k) (λ t. le-leb m k (omega (arith, leb-true))) (λ t. le-leb (max n m) k (omega (arith, leb-true)))
    go false e = lt-leb (max n m) k (omega (arith, leb-false))

pub fits_zero : (a p : ℕ) → fits a p 0 0 ≡ true
unfolding fits
fits_zero a p = rw (le-leb 0 (32 - a) (omega arith), le-leb 0 (32 - p) (omega arith))

pub fits_none : (a p m : ℕ) → fits a p 33 m ≡ false
unfolding fits
fits_none a p m = rw (lt-leb 33 (32 - a) (omega arith))

fits_array : (a p n m : ℕ) → fits a p (min (n + 1) 33) m ≡ ltb a 32 && fits (a + 1) p n m
unfolding fits
fits_array a p n m = rw (room_more n a) (and_assoc (ltb a 32) _ _)

fits_paren : (a p n m : ℕ) → fits a p n (min (m + 1) 33) ≡ ltb p 32 && fits a (p + 1) n m
unfolding fits
fits_paren a p n m = rw (room_more m p) (swap (leb n (32 - a)) (ltb p 32) _)
  where
    swap : (x y z : Bool) → x && (y && z) ≡ y && (x && z)
    swap x true z = refl
    swap x false z = and-false x

pub fits_most : (a p n m k l : ℕ) → fits a p (max n k) (max m l) ≡ fits a p n m && fits a p k l
unfolding fits
fits_most a p n m k l = rw (room_most n k, room_most m l) (mix (leb n (32 - a)) (leb k (32 - a)) (leb m (32 - p)) (leb l (32 - p)))
  where
    mix : (x y z w : Bool) → (x && y) && (z && w) ≡ (x && z) && (y && w)
    mix true true true w = refl
    mix true true false w = refl
    mix true false z w = sym (and-false z)
    mix false y z w = refl

pub kept_both : (x y : Bool) (o : Option (List ℕ)) → kept (x && y) o ≡ kept x (kept y o)
kept_both true y o = refl
kept_both false y o = refl

pub nothing : (x : Bool) → kept x none ≡ none
nothing true = refl
nothing false = refl

-- ---- one step of the rule

module _ (f a p : ℕ) (t : List ℕ) where
  one_plain : (b : ℕ) → basic b || eqb b 118 ≡ true → one (suc f) a p (b ∷ t) ≡ some t
  unfolding one head_of
  one_plain b e = rw (one, head_of, e)

  one_array : eqb (front t) 123 ≡ false → one (suc f) a p (97 ∷ t) ≡ kept (ltb a 32) (one f (a + 1) p t)
  unfolding one head_of
  one_array n = go (ltb a 32) refl
    where
      go : (x : Bool) → ltb a 32 ≡ x → one (suc f) a p (97 ∷ t) ≡ kept x (one f (a + 1) p t)
      go true e = rw (one, head_of, e, n)
      go false e = rw (one, head_of, e)

  one_entry : one (suc f) a p (97 ∷ 123 ∷ t) ≡ kept (ltb a 32) (dict_entry (basic (front t)) (row f (a + 1) p t))
  unfolding one head_of
  one_entry = go (ltb a 32) refl
    where
      go : (x : Bool) → ltb a 32 ≡ x → one (suc f) a p (97 ∷ 123 ∷ t) ≡ kept x (dict_entry (basic (front t)) (row f (a + 1) p t))
      go true e = rw (one, head_of, e)
      go false e = rw (one, head_of, e)

  one_paren : one (suc f) a p (40 ∷ t) ≡ kept (ltb p 32) (tuple (row f a (p + 1) t))
  unfolding one head_of
  one_paren = go (ltb p 32) refl
    where
      go : (x : Bool) → ltb p 32 ≡ x → one (suc f) a p (40 ∷ t) ≡ kept x (tuple (row f a (p + 1) t))
      go true e = rw (one, head_of, e)
      go false e = rw (one, head_of, e)

one_none : (f a p b : ℕ) (t : List ℕ) → basic b || eqb b 118 ≡ false → (b ≡ 97 → ⊥) → (b ≡ 40 → ⊥) → one f a p (b ∷ t) ≡ none
unfolding one head_of
one_none zero a p b t e n m = refl
one_none (suc f) a p b t e n m = rw (one, head_of, e, ne_eqb b 97 n, ne_eqb b 40 m)

-- a type begins, complete or not: a byte stands in front, and it closes nothing
abbrev pub begins : List ℕ → Bool
begins [] = false
begins (b ∷ s) = not (closes b)

pub one_shut : (f a p : ℕ) (s : List ℕ) → begins s ≡ false → one f a p s ≡ none
unfolding one head_of
one_shut zero a p s c = refl
one_shut (suc f) a p [] c = refl
one_shut (suc f) a p (b ∷ s) c = go (eqb b 41) refl
  where
    go : (x : Bool) → eqb b 41 ≡ x → one (suc f) a p (b ∷ s) ≡ none
    go true e = rw (eqb-true b 41 e)
    go false e = rw (eqb-true b 125 (rw e at (not-false (closes b) c)))

pub row_shut : (f a p : ℕ) (s : List ℕ) → begins s ≡ false → row (suc f) a p s ≡ some (0, s)
unfolding row
row_shut f a p [] c = refl
row_shut f a p (b ∷ s) c = rw (row, not-false (closes b) c)

-- a type, and the row behind it
abbrev pub on : (List ℕ → Option Row) → Option (List ℕ) → Option Row
on more none = none
on more (some r) = one_more (more r)

pub row_begins : (f a p : ℕ) (s : List ℕ) → begins s ≡ true → row (suc f) a p s ≡ on (row f a p) (one f a p s)
unfolding row
row_begins f a p [] c = absurd (false≢true c)
row_begins f a p (b ∷ s) c = go (one f a p (b ∷ s)) refl
  where
    go : (o : Option (List ℕ)) → one f a p (b ∷ s) ≡ o → row (suc f) a p (b ∷ s) ≡ on (row f a p) o
    go none q = rw (row, not-true (closes b) c, q)
    go (some r) q = rw (row, not-true (closes b) c, q)

closed_not : (by : ℕ) (s : List ℕ) → closed_by by false s ≡ none
unfolding closed_by
closed_not by [] = refl
closed_not by (b ∷ s) = refl

-- ---- a type by what is in front of it

-- a type has a byte, so there is fuel for a step
nested : {b : ℕ} {t : List ℕ} {n m : ℕ}
    → ((f a p : ℕ) → 2 * length t + 1 ≤ f → one (suc f) a p (b ∷ t) ≡ kept (fits a p n m) (some (behind 0 (b ∷ t)))) → Nested (b ∷ t) n m
nested {b} {t} {n} {m} h = record { is = go }
  where
    go : (f a p : ℕ) → 2 * length (b ∷ t) ≤ f → one f a p (b ∷ t) ≡ kept (fits a p n m) (some (behind 0 (b ∷ t)))
    go zero a p l = absurd (omega arith)
    go (suc f) a p l = h f a p (omega arith)

nested_none : {s : List ℕ} {m : ℕ} → ((f a p : ℕ) → 2 * length s ≤ f → one f a p s ≡ none) → Nested s 33 m
nested_none {s} {m} h = record { is = λ f a p l. rw (h f a p l, fits_none a p m) }

pub nested_shut : {s : List ℕ} {m : ℕ} → begins s ≡ false → Nested s 33 m
nested_shut {s} c = nested_none (λ f a p l. one_shut f a p s c)

module _ {b : ℕ} {t : List ℕ} where
  pub nested_plain : basic b || eqb b 118 ≡ true → Nested (b ∷ t) 0 0
  nested_plain e =
      nested
      (λ f a p l. rw (one_plain f a p t b e, fits_zero a p, letter_on b t (plain_closes b e) (plain_opens b e) (plain_array b e)))

  pub nested_other : {m : ℕ} → basic b || eqb b 118 ≡ false → (b ≡ 97 → ⊥) → (b ≡ 40 → ⊥) → Nested (b ∷ t) 33 m
  nested_other e n m = nested_none (λ f a p l. one_none f a p b t e n m)

pub nested_array : {t : List ℕ} {n m : ℕ} → eqb (front t) 123 ≡ false → Nested t n m → Nested (97 ∷ t) (min (n + 1) 33) m
nested_array {t} {n} {m} e r =
    nested
    (λ f a p l.
    rw (
      one_array f a p t e,
      r.is f (a + 1) p (omega arith),
      fits_array a p n m,
      kept_both (ltb a 32) (fits (a + 1) p n m) (some (behind 0 (97 ∷ t))),
      array_on 97 t refl refl refl,
    ))

-- ---- a dict entry

-- where no type begins none fits
pub fits_shut : {s : List ℕ} {n m : ℕ} (a p : ℕ) → begins s ≡ false → Nested s n m → fits a p n m ≡ false
fits_shut {s} {n} {m} a p c r = go (fits a p n m) (sym (one_shut (2 * length s) a p s c) ∙ r.is (2 * length s) a p (omega arith))
  where
    go : (x : Bool) → none ≡ kept x (some (behind 0 s)) → x ≡ false
    go true q = let z : ◌≡◌ {A = ℕ} 0 1 = cc in absurd (omega arith)
    go false q = refl

-- behind the two types
entry_end : (f a p : ℕ) (s : List ℕ) → dict_entry true (one_more (one_more (row (suc f) a p s))) ≡ kept (eqb (front s) 125) (some (behind 1 s))
unfolding closed_by
entry_end f a p [] = rw (row_shut f a p [] refl)
entry_end f a p (b ∷ s) = go (closes b) refl (eqb b 125) refl
  where
    -- three types or more are no dict entry
    three : (o : Option Row) → dict_entry true (one_more (one_more (one_more o))) ≡ none
    three none = refl
    three (some r) = rw (ne_eqb (r.0 + 1 + 1 + 1) 2 (λ e. omega (arith, e))) (closed_not 125 r.1)

    more : (o : Option (List ℕ)) → dict_entry true (one_more (one_more (on (row f a p) o))) ≡ none
    more none = refl
    more (some r) = three (row f a p r)

    go : (x : Bool) → closes b ≡ x → (y : Bool) → eqb b 125 ≡ y
        → dict_entry true (one_more (one_more (row (suc f) a p (b ∷ s)))) ≡ kept (eqb b 125) (some (behind 1 (b ∷ s)))
    go true c true e = rw (row_shut f a p (b ∷ s) (rw c), e, close_last b s c)
    go true c false e = rw (row_shut f a p (b ∷ s) (rw c), e)
    go false c true e = absurd (false≢true (rw (eqb-true b 125 e) at (sym c)))
    go false c false e = rw (row_begins f a p (b ∷ s) (rw c), e) (more (one f a p (b ∷ s)))

-- behind the key: `shut` says whether a `}` stands behind the type u, where one begins
abbrev pub Shut : List ℕ → Bool → Type 0
Shut u shut = begins u ≡ true → eqb (front (behind 0 u)) 125 ≡ shut

entry_value : (f a p n m : ℕ) (u : List ℕ) (shut : Bool) → Shut u shut → Nested u n m → 2 * length u + 2 ≤ f
    → dict_entry true (one_more (row f a p u)) ≡ kept (fits a p n m) (kept shut (some (behind 1 u)))
entry_value zero a p n m u shut h r l = absurd (omega arith)
entry_value (suc zero) a p n m u shut h r l = absurd (omega arith)
entry_value (suc (suc f)) a p n m u shut h r l = go (begins u) refl
  where
    if_fits : begins u ≡ true → (x : Bool)
        → dict_entry true (one_more (on (row (suc f) a p) (kept x (some (behind 0 u))))) ≡ kept x (kept shut (some (behind 1 u)))
    if_fits c true = rw (← h c, ← hops u) (entry_end f a p (behind 0 u))
    if_fits c false = refl

    go : (x : Bool) → begins u ≡ x → dict_entry true (one_more (row (suc (suc f)) a p u)) ≡ kept (fits a p n m) (kept shut (some (behind 1 u)))
    go true c = rw (row_begins (suc f) a p u c, r.is (suc f) a p (omega arith)) (if_fits c (fits a p n m))
    go false c = rw (row_shut (suc f) a p u c, fits_shut a p c r) (closed_not 125 u)

-- the rule at `a{`, a basic key, and the type behind it
entry_one : (f a p n m k : ℕ) (u : List ℕ) (shut : Bool) → basic k ≡ true → Shut u shut → Nested u n m → 2 * length u + 3 ≤ f
    → one (suc f) a p (97 ∷ 123 ∷ k ∷ u) ≡ kept (fits a p (min (n + 1) 33) m) (kept shut (some (behind 1 u)))
entry_one zero a p n m k u shut e h r l = absurd (omega arith)
entry_one (suc f) a p n m k u shut e h r l = one_entry (suc f) a p (k ∷ u) ∙ step f l
  where
    plain : basic k || eqb k 118 ≡ true
    plain = rw e

    step : (f : ℕ) → 2 * length u + 3 ≤ suc f
        → kept (ltb a 32) (dict_entry (basic k) (row (suc f) (a + 1) p (k ∷ u))) ≡ kept (fits a p (min (n + 1) 33) m) (kept shut (some (behind 1 u)))
    step zero l = absurd (omega arith)
    step (suc f) l =
        rw (
          e,
          row_begins (suc f) (a + 1) p (k ∷ u) (rw (plain_closes k plain)),
          one_plain f (a + 1) p u k plain,
          entry_value (suc f) (a + 1) p n m u shut h r (omega arith),
          fits_array a p n m,
          kept_both (ltb a 32) (fits (a + 1) p n m) (kept shut (some (behind 1 u))),
        )

module _ {k : ℕ} {u : List ℕ} {n m : ℕ} (e : basic k ≡ true) (r : Nested u n m) where
  pub nested_entry : Shut u true → Nested (97 ∷ 123 ∷ k ∷ u) (min (n + 1) 33) m
  nested_entry h =
      let plain : basic k || eqb k 118 ≡ true = rw e in
      nested
      (λ f a p l.
      rw (
        entry_one f a p n m k u true e h r (omega arith),
        array_on 97 (123 ∷ k ∷ u) refl refl refl,
        open_one 123 (k ∷ u) refl refl 0,
        ← hops (k ∷ u),
        letter_on k u (plain_closes k plain) (plain_opens k plain) (plain_array k plain),
      ))

  pub nested_entry_bad : Shut u false → Nested (97 ∷ 123 ∷ k ∷ u) 33 0
  nested_entry_bad h =
      nested (λ f a p l. rw (entry_one f a p n m k u false e h r (omega arith), fits_none a p 0) (nothing (fits a p (min (n + 1) 33) m)))

-- no key, or one that is not basic
pub nested_key : {t : List ℕ} → basic (front t) ≡ false → Nested (97 ∷ 123 ∷ t) 33 0
nested_key {t} e = nested (λ f a p l. rw (one_entry f a p t, e, fits_none a p 0) (none_left (ltb a 32) (row f (a + 1) p t)))
  where
    none_left : (x : Bool) (o : Option Row) → kept x (dict_entry false o) ≡ none
    none_left true none = refl
    none_left true (some r) = closed_not 125 r.1
    none_left false o = refl

-- ---- parentheses

-- a row that has a type and ends with `)`
abbrev pub closing : Option (List ℕ) → Option (List ℕ)
closing none = none
closing (some s) = closed_by 41 true s

pub tuple_begins : (f a p : ℕ) (s : List ℕ) → begins s ≡ true → tuple (row f a p s) ≡ closing (rest_of (row f a p s))
unfolding row
tuple_begins zero a p s c = refl
tuple_begins (suc f) a p s c = rw (row_begins f a p s c) (go (one f a p s))
  where
    some_types : (o : Option Row) → tuple (one_more o) ≡ closing (rest_of (one_more o))
    some_types none = refl
    some_types (some r) = rw (le-leb 1 (r.0 + 1) (omega arith))

    go : (o : Option (List ℕ)) → tuple (on (row f a p) o) ≡ closing (rest_of (on (row f a p) o))
    go none = refl
    go (some r) = some_types (row f a p r)

-- no type stands in the parentheses
pub tuple_shut : (f a p : ℕ) (s : List ℕ) → begins s ≡ false → tuple (row f a p s) ≡ none
unfolding row
tuple_shut zero a p s c = refl
tuple_shut (suc f) a p s c = rw (row_shut f a p s c) (closed_not 41 s)

pub nested_tuple : {t : List ℕ} (n m : ℕ) → ((f a p : ℕ) → 2 * length t + 1 ≤ f → tuple (row f a p t) ≡ kept (fits a p n m) (some (behind 1 t)))
    → Nested (40 ∷ t) n (min (m + 1) 33)
nested_tuple {t} n m h =
    nested
    (λ f a p l.
    rw (
      one_paren f a p t,
      h f a (p + 1) l,
      fits_paren a p n m,
      kept_both (ltb p 32) (fits a (p + 1) n m) (some (behind 0 (40 ∷ t))),
      open_one 40 t refl refl 0,
    ))

pub nested_tuple_bad : {t : List ℕ} → ((f a p : ℕ) → 2 * length t + 1 ≤ f → tuple (row f a p t) ≡ none) → Nested (40 ∷ t) 33 0
nested_tuple_bad {t} h = nested (λ f a p l. rw (one_paren f a p t, h f a (p + 1) l, fits_none a p 0) (nothing (ltb p 32)))
