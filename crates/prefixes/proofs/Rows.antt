-- What holds of each thing of a list, rows of one width that stand one behind the other, and what each row of the new own rules is.
use mathlib.Core.Path.{◌≡◌, refl, ◌∙◌}
use mathlib.Core.Bool.{Bool, true, false, cond}
use mathlib.Core.List.{List, [], ◌∷◌, ◌++◌, map, append_assoc}
use Prim.Native.Nat.{ℕ, zero, suc, ◌+◌, ◌*◌, ◌≤◌, ◌<◌}
use native.Mathlib.Omega.{arith}
use lib.ListN.{length, get_or, take, drop, length-append}
use lib.Seq.{take_at}
use Rattle.wire.specs.Words.{word_bytes}
use Rattle.wire.proofs.Parts.{drop_past}
use Rattle.names.specs.Namespace.{in_namespace}
use Rattle.tables.specs.Tables.{cells}
use Rattle.image.specs.Rules.{policy_rule}
use Rattle.image.specs.Good.{is_prefix_rule}
use Rattle.image.specs.declared.Section.TheVariants.{Own}
use Rattle.prefixes.specs.Copies.{passing, own_text, Copy}
use Rattle.prefixes.specs.Converted.{own_bytes, exact, exacts, becomes, become_all, joined}

-- ---- each thing of a list

abbrev pub Each : {A : Type 0} → (A → Type 0) → List A → Type 0
Each P [] = Unit {0}
Each P (x ∷ xs) = P x × Each P xs

module _ {A : Type 0} (P : A → Type 0) where
  pub each_append : (xs ys : List A) → Each P xs → Each P ys → Each P (xs ++ ys)
  each_append [] ys p q = q
  each_append (x ∷ xs) ys p q = (p.0, each_append xs ys p.1 q)

  pub each_all : ((x : A) → P x) → (xs : List A) → Each P xs
  each_all f [] = tt
  each_all f (x ∷ xs) = (f x, each_all f xs)

  pub each_at : (d : A) (xs : List A) → Each P xs → (i : ℕ) → i < length xs → P (get_or xs i d)
  each_at d [] p i h = absurd (omega arith)
  each_at d (x ∷ xs) p zero h = p.0
  each_at d (x ∷ xs) p (suc i) h = each_at d xs p.1 i (omega arith)

pub each_map : {A : Type 0} (P Q : A → Type 0) → ((x : A) → P x → Q x) → (xs : List A) → Each P xs → Each Q xs
each_map P Q f [] p = tt
each_map P Q f (x ∷ xs) p = (f x p.0, each_map P Q f xs p.1)

-- ---- rows of w bytes

abbrev pub Wide : ℕ → List ℕ → Type 0
Wide w row = length row ≡ w

module _ (w : ℕ) where
  pub joined_long : (rows : List (List ℕ)) → Each (Wide w) rows → length (joined rows) ≡ w * length rows
  unfolding cells
  joined_long [] e = omega arith
  joined_long (x ∷ rows) e = length-append x (joined rows) ∙ omega (arith, e.0, joined_long rows e.1)

  -- row i is read where it stands, whatever follows them
  pub joined_at : (rows : List (List ℕ)) → Each (Wide w) rows → (i : ℕ) → i < length rows → (r : List ℕ)
      → take w (drop (w * i) (joined rows ++ r)) ≡ get_or rows i []
  unfolding cells
  joined_at [] e i h r = absurd (omega arith)
  joined_at (x ∷ rows) e zero h r =
      let z : w * 0 ≡ 0 = omega arith in
      rw (z, append_assoc x (joined rows) r) (take_at x (joined rows ++ r) w e.0)
  joined_at (x ∷ rows) e (suc i) h r =
      let s : w * suc i ≡ w + w * i = omega arith in
      rw (s, append_assoc x (joined rows) r, drop_past x (joined rows ++ r) w (w * i) e.0) (joined_at rows e.1 i (omega arith) r)

-- ---- an exact rule

-- its bytes, one by one
pub exact_is : (r : List ℕ) (o l : ℕ) → 8 ≤ length r
    → exact r o l
    ≡ get_or r 0 0 ∷ get_or r 1 0 ∷ 1 ∷ get_or r 3 0 ∷ get_or r 4 0 ∷ get_or r 5 0 ∷ get_or r 6 0 ∷ get_or r 7 0 ∷ (word_bytes o ++ word_bytes l)
unfolding exact
exact_is [] o l h = absurd (omega arith)
exact_is (a ∷ []) o l h = absurd (omega arith)
exact_is (a ∷ b ∷ []) o l h = absurd (omega arith)
exact_is (a ∷ b ∷ c ∷ []) o l h = absurd (omega arith)
exact_is (a ∷ b ∷ c ∷ d ∷ []) o l h = absurd (omega arith)
exact_is (a ∷ b ∷ c ∷ d ∷ e ∷ []) o l h = absurd (omega arith)
exact_is (a ∷ b ∷ c ∷ d ∷ e ∷ f ∷ []) o l h = absurd (omega arith)
exact_is (a ∷ b ∷ c ∷ d ∷ e ∷ f ∷ g ∷ []) o l h = absurd (omega arith)
exact_is (a ∷ b ∷ c ∷ d ∷ e ∷ f ∷ g ∷ i ∷ r) o l h = refl

pub exact_long : (r : List ℕ) (o l : ℕ) → 8 ≤ length r → length (exact r o l) ≡ 16
unfolding word_bytes
exact_long r o l h = rw (exact_is r o l h)

-- ---- the new own rules

-- what holds of each old rule that is about no prefix, and of the exact rule for each copy under a prefix, holds of each row
module _ (image : List ℕ) (Q : Copy → Type 0) (P : List ℕ → Type 0) where
  abbrev pub Kept : ℕ → Type 0
  Kept i = is_prefix_rule (policy_rule Own image i) ≡ false → P (own_bytes image i)

  abbrev pub Made : ℕ → Type 0
  Made i =
      is_prefix_rule (policy_rule Own image i) ≡ true → (c : Copy) → Q c → in_namespace (own_text image i) c.name ≡ true
      → P (exact (own_bytes image i) c.offset (length c.name))

  exacts_each : (rule prefix : List ℕ) → ((c : Copy) → Q c → in_namespace prefix c.name ≡ true → P (exact rule c.offset (length c.name)))
      → (cs : List Copy) → Each Q cs → Each P (exacts rule prefix cs)
  unfolding exacts passing
  exacts_each rule prefix f [] q = tt
  exacts_each rule prefix f (c ∷ cs) q = go (exacts_each rule prefix f cs q.1) (in_namespace prefix c.name) refl
    where
      rest : List Copy
      rest = passing (λ d. in_namespace prefix d.name) cs

      go : Each P (exacts rule prefix cs) → (b : Bool) → in_namespace prefix c.name ≡ b
          → Each P (map (λ d. exact rule d.offset (length d.name)) (cond b (c ∷ rest) rest))
      go r true e = (f c q.0 e, r)
      go r false e = r

  module _ (cs : List Copy) (q : Each Q cs) where
    becomes_each : (i : ℕ) → Kept i → Made i → Each P (becomes image cs i)
    unfolding becomes
    becomes_each i k m = go (is_prefix_rule (policy_rule Own image i)) refl
      where
        go : (b : Bool) → is_prefix_rule (policy_rule Own image i) ≡ b
            → Each P (cond b (exacts (own_bytes image i) (own_text image i) cs) (own_bytes image i ∷ []))
        go true e = exacts_each (own_bytes image i) (own_text image i) (m e) cs q
        go false e = (k e, tt)

    pub rows_each : (n : ℕ) → ((i : ℕ) → i < n → Kept i) → ((i : ℕ) → i < n → Made i) → Each P (become_all image cs n)
    unfolding become_all
    rows_each zero k m = tt
    rows_each (suc n) k m =
        each_append P (become_all image cs n) (becomes image cs n) (rows_each n (λ i l. k i (omega arith)) (λ i l. m i (omega arith)))
        (becomes_each n (k n (omega arith)) (m n (omega arith)))
