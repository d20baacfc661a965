-- Which things a list has, and where: of those that pass a test, of a row of rows, and of copies.
use mathlib.Core.Path.{◌≡◌, refl, sym}
use mathlib.Core.Bool.{Bool, true, false, cond, not, ◌&&◌, false≢true}
use mathlib.Core.List.{List, [], ◌∷◌, map}
use Prim.Native.Nat.{ℕ, zero, suc, ◌+◌, ◌<◌}
use native.Mathlib.Nat.{eq-or-lt_of_le}
use native.Mathlib.Omega.{arith}
use mathlib.Core.Logic.{◌⊎◌, inl, inr, ⊎_elim}
use lib.ListN.{length, get_or}
use Rattle.wire.specs.Bytes.{same}
use Rattle.wire.specs.Lists.{any, below}
use Rattle.wire.proofs.Texts.{same_eq, both_second, either}
use Rattle.wire.proofs.Tests.{clash, refute, by_test}
use Rattle.policy.proofs.Blocks.{some_of}
use Rattle.prefixes.specs.Copies.{passing, Copy, copies_from}
use Rattle.prefixes.proofs.Rows.{Each}

-- ---- some number below n passes

some_at : (p : ℕ → Bool) (n k : ℕ) → k < n → p k ≡ true → below (λ j. not (p j)) n ≡ false
some_at p zero k l e = absurd (omega arith)
some_at p (suc n) k l e =
    ⊎_elim (λ (q : k ≡ n). refute _ (λ t. clash (rw q at e) (not_is (p n) (both_second (below (λ j. not (p j)) n) (not (p n)) t))))
    (λ (q : k < n). rw (some_at p n k q e))
    (eq-or-lt_of_le (omega arith))
  where
    not_is : (b : Bool) → not b ≡ true → b ≡ false
    not_is false h = refl
    not_is true h = sym h

pub some_of_at : (p : ℕ → Bool) (n k : ℕ) → k < n → p k ≡ true → some_of p n ≡ true
some_of_at p n k l e = rw (some_at p n k l e)

-- a number that passes
pub record Passes (p : ℕ → Bool) (n : ℕ) : Type 0 where
  pub at : ℕ
  pub inside : at < n
  pub is : p at ≡ true

pub some_where : (p : ℕ → Bool) (n : ℕ) → some_of p n ≡ true → Passes p n
some_where p zero e = absurd (false≢true e)
some_where p (suc n) e = by_test (p n) (λ t. record { at = n; inside = omega arith; is = t }) (λ f. further (some_where p n (rest (below (λ j. not (p j)) n) (p n) f e)))
  where
    rest : (a b : Bool) → b ≡ false → not (a && not b) ≡ true → not a ≡ true
    rest true b f h = rw f at h
    rest false b f h = refl

    further : Passes p n → Passes p (suc n)
    further w = record { at = w.at; inside = omega (arith, w.inside); is = w.is }

-- ---- members

pub data Member {A : Type 0} (x : A) : List A → Type 0 where
  here : {xs : List A} → Member x (x ∷ xs)
  there : {y : A} {xs : List A} → Member x xs → Member x (y ∷ xs)

first_or_later : {A : Type 0} {x y : A} {ys : List A} → Member x (y ∷ ys) → (x ≡ y) ⊎ Member x ys
first_or_later here = inl refl
first_or_later (there m) = inr m

-- where a member stands
pub record Stands {A : Type 0} (d x : A) (xs : List A) : Type 0 where
  pub at : ℕ
  pub inside : at < length xs
  pub is : get_or xs at d ≡ x

pub stands : {A : Type 0} (d : A) {x : A} {xs : List A} → Member x xs → Stands d x xs
stands d here = record { at = 0; inside = omega arith; is = refl }
stands d (there m) = let s = stands d m in record { at = suc s.at; inside = omega (arith, s.inside); is = s.is }

pub member_at : {A : Type 0} (d : A) (xs : List A) (k : ℕ) → k < length xs → Member (get_or xs k d) xs
member_at d [] k l = absurd (omega arith)
member_at d (x ∷ xs) zero l = here
member_at d (x ∷ xs) (suc k) l = there (member_at d xs k (omega arith))

-- what holds of each thing of a list
pub each_member : {A : Type 0} (P : A → Type 0) {x : A} {xs : List A} → Each P xs → Member x xs → P x
each_member P e here = e.0
each_member P e (there m) = each_member P e.1 m

pub any_member : (x : List ℕ) (xs : List (List ℕ)) → any (same x) xs ≡ true → Member x xs
any_member x [] e = absurd (false≢true e)
any_member x (y ∷ ys) e =
    ⊎_elim (λ (q : same x y ≡ true). rw (same_eq x y q) here) (λ (q : any (same x) ys ≡ true). there (any_member x ys q)) (either (same x y) (any (same x) ys) e)

-- those that pass are those of the list that pass
module _ {A : Type 0} (p : A → Bool) where
  pub passes_in : {x : A} {xs : List A} → Member x xs → p x ≡ true → Member x (passing p xs)
  unfolding passing
  passes_in here e = rw e here
  passes_in (there {y} m) e = by_test (p y) (λ t. rw t (there (passes_in m e))) (λ f. rw f (passes_in m e))

  pub record Passed (x : A) (xs : List A) : Type 0 where
    pub of : Member x xs
    pub is : p x ≡ true

  pub passed_of : {x : A} (xs : List A) → Member x (passing p xs) → Passed x xs
  unfolding passing
  passed_of {x = x} [] m = elim m [ ]
  passed_of {x} (y ∷ ys) m = go (p y) refl m (passed_of ys)
    where
      further : Passed x ys → Passed x (y ∷ ys)
      further w = record { of = there w.of; is = w.is }

      go : (b : Bool) → p y ≡ b → Member x (cond b (y ∷ passing p ys) (passing p ys)) → (Member x (passing p ys) → Passed x ys) → Passed x (y ∷ ys)
      go true e n rest =
          ⊎_elim (λ (q : x ≡ y). record { of = rw q here; is = rw q e }) (λ (k : Member x (passing p ys)). further (rest k)) (first_or_later n)
      go false e n rest = further (rest n)

-- ---- a list mapped

module _ {A B : Type 0} (f : A → B) where
  pub mapped : {x : A} {xs : List A} → Member x xs → Member (f x) (map f xs)
  mapped here = here
  mapped (there m) = there (mapped m)

  pub record Image (y : B) (xs : List A) : Type 0 where
    pub from : A
    pub of : Member from xs
    pub is : y ≡ f from

  pub mapped_of : {y : B} (xs : List A) → Member y (map f xs) → Image y xs
  mapped_of {y = y} [] x' = elim x' [ ]
  mapped_of {y = y} (x ∷ xs) m = elim (first_or_later m) [
    | inl e ↦ record { from = x; of = here; is = e }
    | inr r ↦ (let w = mapped_of {y = y} xs r in record { from = w.from; of = there w.of; is = w.is })
  ]

-- ---- copies

-- each name has a copy
pub record CopyOf (x : List ℕ) (cs : List Copy) : Type 0 where
  pub copy : Copy
  pub of : Member copy cs
  pub is : copy.name ≡ x

pub copy_of : {x : List ℕ} (offset : ℕ) {xs : List (List ℕ)} → Member x xs → CopyOf x (copies_from offset xs)
unfolding copies_from
copy_of offset here = record { copy = _; of = here; is = refl }
copy_of offset (there {y} m) = let w = copy_of (offset + length y) m in record { copy = w.copy; of = there w.of; is = w.is }
