-- The search theorem: `deciding` gives a position exactly where the rule there matches and has a higher precedence than every other that matches,
-- and none exactly where no rule matches. It holds of every section, of any length, and of the sections of every image, good or not.
use mathlib.Core.Path.{◌≡◌, refl, sym, subst, ◌∙◌}
use mathlib.Core.Logic.{◌↔◌, ◌⊎◌, inl, inr, ⊎_elim}
use mathlib.Core.Bool.{Bool, true, false, cond, false≢true}
use mathlib.Core.List.{List}
use mathlib.Core.Option.{Option, none, some}
use Prim.Native.Nat.{ℕ, zero, suc, ◌≤◌, ◌<◌}
use native.Mathlib.Nat.{eq-or-lt_of_le}
use native.Mathlib.Omega.{arith}
use lib.Dec.{eqb}
use borrow.Author.Tests.{leb-true, leb-false, ltb-true, ltb-false, eqb-true, eqb-false}
use Rattle.image.specs.Image.{rule_count}
use Rattle.image.specs.declared.Section.{Section}
use Rattle.policy.specs.Precedence.{gives_way, heard, deciding, Beats, Decides, NoneMatches}
use Rattle.policy.specs.Decisions.{context_in, decides_in}

-- what holds of each number below n, and of n, holds of each below n + 1
one_more_lem : (P : ℕ → Type 0) {n : ℕ} → ((j : ℕ) → j < n → P j) → P n → (j : ℕ) → j < suc n → P j
one_more_lem P {n} h p j l = ⊎_elim (λ (e : j ≡ n). subst P (sym e) p) (λ (k : j < n). h j k) (eq-or-lt_of_le (omega arith))

-- ---- two rules that match

-- the earlier gives way exactly where its context is not the higher
gives : (earlier later : ℕ) → gives_way earlier later ≡ true → earlier ≤ later
gives earlier later e = omega (arith, leb-true, ltb-true)

keeps : (earlier later : ℕ) → gives_way earlier later ≡ false → later < earlier
keeps earlier later e = omega (arith, leb-false, ltb-false)

-- no two rules each have a higher precedence than the other
pub clash : (context_of : ℕ → ℕ) (i j : ℕ) → Beats context_of i j → Beats context_of j i → ⊥
clash context_of i j (inl a) (inl b) = omega arith
clash context_of i j (inl a) (inr b) = omega (arith, b.0)
clash context_of i j (inr a) (inl b) = omega (arith, a.0)
clash context_of i j (inr a) (inr b) = omega (arith, a.1, b.1)

-- ---- any section

module _ (context_of : ℕ → ℕ) (matches : ℕ → Bool) where
  -- what an answer says of the first n rules
  abbrev Says : ℕ → Option ℕ → Type 0
  Says n none = NoneMatches matches n
  Says n (some i) = Decides context_of matches n i

  -- an answer over n rules, and then one rule more: it does not match or is beaten, and what decided stays ..
  stays : (n i : ℕ) → (matches n ≡ true → Beats context_of i n) → Decides context_of matches n i → Decides context_of matches (suc n) i
  stays n i h k =
      record {
        inside = omega (arith, k.inside);
        fits = k.fits;
        beats = one_more_lem (λ (j : ℕ). matches j ≡ true → (j ≡ i → ⊥) → Beats context_of i j) (λ j l. k.beats j l) (λ m d. h m);
      }

  unheard : (n : ℕ) (o : Option ℕ) → matches n ≡ false → Says n o → Says (suc n) o
  unheard n none e k = one_more_lem (λ (j : ℕ). matches j ≡ false) k e
  unheard n (some i) e k = stays n i (λ m. absurd (false≢true (sym e ∙ m))) k

  -- .. or it beats all that match
  takes : (n : ℕ) → matches n ≡ true → ((j : ℕ) → j < n → matches j ≡ true → Beats context_of n j) → Decides context_of matches (suc n) n
  takes n e h =
      record {
        inside = omega arith;
        fits = e;
        beats = one_more_lem (λ (j : ℕ). matches j ≡ true → (j ≡ n → ⊥) → Beats context_of n j) (λ j l m d. h j l m) (λ m d. absurd (d refl));
      }

  later : (n i : ℕ) → i < n → context_of i ≤ context_of n → Beats context_of n i
  later n i l h = ⊎_elim (λ (e : context_of i ≡ context_of n). inr (e, l)) (λ (k : context_of i < context_of n). inl k) (eq-or-lt_of_le h)

  at_most : (j i : ℕ) → Beats context_of i j → context_of j ≤ context_of i
  at_most j i (inl h) = omega arith
  at_most j i (inr h) = omega (arith, h.0)

  one_rule_more : (n : ℕ) (o : Option ℕ) (b : Bool) → matches n ≡ b → Says n o → Says (suc n) (heard context_of n b o)
  one_rule_more n o false e k = unheard n o e k
  one_rule_more n none true e k = takes n e (λ j l m. absurd (false≢true (sym (k j l) ∙ m)))
  one_rule_more n (some i) true e k = go (gives_way (context_of i) (context_of n)) refl
    where
      -- whom the rule at i beats, a later one of no lower context beats too
      over : context_of i ≤ context_of n → (j : ℕ) → j < n → matches j ≡ true → Beats context_of n j
      over h j l m = go (eqb j i) refl
        where
          go : (b : Bool) → eqb j i ≡ b → Beats context_of n j
          go true q = later n j l (rw (eqb-true j i q) h)
          go false q = later n j l (omega (arith, at_most j i (k.beats j l m (eqb-false j i q))))

      go : (b : Bool) → gives_way (context_of i) (context_of n) ≡ b → Says (suc n) (cond b (some n) (some i))
      go true q = takes n e (over (gives (context_of i) (context_of n) q))
      go false q = stays n i (λ m. inl (keeps (context_of i) (context_of n) q)) k

  says : (n : ℕ) → Says n (deciding context_of matches n)
  unfolding deciding
  says zero = λ j l. absurd (omega arith)
  says (suc n) = one_rule_more n (deciding context_of matches n) (matches n) refl (says n)

  -- a position is given exactly where the rule there decides
  pub deciding_some : (n i : ℕ) → deciding context_of matches n ≡ some i → Decides context_of matches n i
  deciding_some n i e = subst (Says n) e (says n)

  pub deciding_only : (n i : ℕ) → Decides context_of matches n i → deciding context_of matches n ≡ some i
  deciding_only n i d = go (deciding context_of matches n) (says n)
    where
      go : (o : Option ℕ) → Says n o → o ≡ some i
      go none k = absurd (false≢true (sym (k i d.inside) ∙ d.fits))
      go (some j) k = same (eqb j i) refl
        where
          same : (b : Bool) → eqb j i ≡ b → some j ≡ some i
          same true q = rw (eqb-true j i q)
          same false q =
              let m : j ≡ i → ⊥ = eqb-false j i q in
              absurd (clash context_of i j (d.beats j k.inside k.fits m) (k.beats i d.inside d.fits (λ e. m (sym e))))

  -- none is given exactly where no rule matches
  pub deciding_none : (n : ℕ) → deciding context_of matches n ≡ none → NoneMatches matches n
  deciding_none n e = subst (Says n) e (says n)

  pub deciding_nothing : (n : ℕ) → NoneMatches matches n → deciding context_of matches n ≡ none
  deciding_nothing n h = go (deciding context_of matches n) (says n)
    where
      go : (o : Option ℕ) → Says n o → o ≡ none
      go none k = refl
      go (some i) k = absurd (false≢true (sym (h i k.inside) ∙ k.fits))

  pub decides_exactly : (n i : ℕ) → (deciding context_of matches n ≡ some i) ↔ Decides context_of matches n i
  decides_exactly n i = (deciding_some n i, deciding_only n i)

  pub undecided_exactly : (n : ℕ) → (deciding context_of matches n ≡ none) ↔ NoneMatches matches n
  undecided_exactly n = (deciding_none n, deciding_nothing n)

-- ---- the sections of an image: connect, own, and send and receive, by which rules match (`connect_hits`, `own_hits` and `transaction_hits`)

module _ (s : Section) (image : List ℕ) (hits : ℕ → Bool) where
  pub rule_exactly : (i : ℕ) → (decides_in s image hits ≡ some i) ↔ Decides (context_in s image) hits (rule_count s image) i
  unfolding decides_in
  rule_exactly i = decides_exactly (context_in s image) hits (rule_count s image) i

  pub rule_undecided : (decides_in s image hits ≡ none) ↔ NoneMatches hits (rule_count s image)
  unfolding decides_in
  rule_undecided = undecided_exactly (context_in s image) hits (rule_count s image)
