-- The rule of elements, as a rule of neighbours and as what a scan asks: once for every form.
use Rattle.std.proofs.Common.{◌≡◌, refl, sym, ◌∙◌, Bool, true, false, cond, not, ◌&&◌, ◌||◌, List, [], ◌∷◌, ℕ, suc, arith, eqb, length, eq-eqb}
use Rattle.std.proofs.Common.{eqb-true, ne_eqb}
use mathlib.Core.Bool.{and-false, or-false}
use Rattle.wire.specs.Lists.{every}
use Rattle.names.specs.declared.Form.{Form}
use Rattle.names.specs.Names.{digit, leads, separator, character, cut, pieces, element, elements}
use Rattle.names.specs.Classes.{others}
use Rattle.names.specs.Scan.{spaced}
use Rattle.names.proofs.Lookup.{agreed}
use Rattle.names.proofs.Follow.{many, near, high_of, cleared, pair_right}

-- s is elements, and one alone where there may not be `many`
unfoldable pub listed : Form → List ℕ → Bool
listed form s = elements form s && (many form || eqb (length (pieces (separator form) s)) 1)

-- each byte may follow the one before it, and the last is no separator
unfoldable pub steps : Form → ℕ → List ℕ → Bool
steps form p [] = not (eqb p (separator form))
steps form p (b ∷ s) = near form p b && steps form b s

-- ---- elements are steps

-- the present element is good so far; q: it is empty yet
abbrev present : Bool → Form → List ℕ → Bool
present true form e = element form e
present false form e = every (character form) e

at_end : (q many : Bool) (form : Form) → not q ≡ present q form [] && true && (many || true)
at_end true many form = refl
at_end false true form = refl
at_end false false form = refl

at_separator : (q many : Bool) (form : Form) (r z : Bool)
    → many && true && not q && (r && (many || z)) ≡ present q form [] && r && many
at_separator true true form r z = refl
at_separator true false form r z = refl
at_separator false true form r z = refl
at_separator false false form r z = sym (and-false r)

at_other : (w q lead d a r m : Bool)
    → w && (lead || not q || not d) && (a && r && m) ≡ cond q ((lead || not d) && (w && a)) (w && a) && r && m
at_other true true true d a r m = refl
at_other true true false true a r m = refl
at_other true true false false a r m = refl
at_other true false true d a r m = refl
at_other true false false d a r m = refl
at_other false true true d a r m = refl
at_other false true false true a r m = refl
at_other false true false false a r m = refl
at_other false false lead d a r m = refl

-- a separator is no character
pub apart : (form : Form) → character form (separator form) ≡ false
apart form = agreed (λ f k. character f (separator f)) (λ f k. false) refl form others

module _ (form : Form) where
  -- what the elements ask, where p stands before s
  abbrev asked : ℕ → List ℕ → Bool
  asked p s =
      present (eqb p (separator form)) form (cut (separator form) s).0
      && every (element form) (cut (separator form) s).1
      && (many form || eqb (suc (length (cut (separator form) s).1)) 1)

  other : (q : Bool) (b : ℕ) (e : List ℕ) (r m : Bool)
      → character form b && (leads form || not q || not (digit b)) && (every (character form) e && r && m) ≡ present q form (b ∷ e) && r && m
  other true b e r m = at_other (character form b) true (leads form) (digit b) (every (character form) e) r m
  other false b e r m = at_other (character form b) false (leads form) (digit b) (every (character form) e) r m

  step : (p b : ℕ) (s : List ℕ) (t : Bool) → eqb b (separator form) ≡ t → steps form b s ≡ asked b s
      → near form p b && steps form b s ≡ asked p (b ∷ s)
  unfolding near
  step p b s true e ih =
      let c = cut (separator form) s in
      let f : character form b ≡ false = rw (eqb-true b (separator form) e) (apart form) in
      let g : eqb (suc (suc (length c.1))) 1 ≡ false = ne_eqb (suc (suc (length c.1))) 1 (λ z. omega arith) in
      simp (ih, e, f, g, or-false)
      (at_separator (eqb p (separator form)) (many form) form (element form c.0 && every (element form) c.1) (eqb (suc (length c.1)) 1))
  step p b s false e ih =
      let c = cut (separator form) s in
      simp (ih, e, and-false) (other (eqb p (separator form)) b c.0 (every (element form) c.1) (many form || eqb (suc (length c.1)) 1))

  steps_asked : (p : ℕ) (s : List ℕ) → steps form p s ≡ asked p s
  unfolding steps
  steps_asked p [] = at_end (eqb p (separator form)) (many form) form
  steps_asked p (b ∷ s) = step p b s (eqb b (separator form)) refl (steps_asked b s)

  pub listed_steps : (s : List ℕ) → listed form s ≡ steps form (separator form) s
  unfolding listed
  listed_steps s = sym (steps_asked (separator form) s ∙ rw (eq-eqb (separator form) (separator form) refl))

-- ---- steps are what a scan asks

-- no byte from `.` to `high` follows a separator, where p stands before s
unfoldable pub follow : ℕ → ℕ → List ℕ → Bool
follow high p [] = true
follow high p (b ∷ s) = spaced high p b && follow high b s

-- the last byte, where p stands before s
abbrev pub last_of : ℕ → List ℕ → ℕ
last_of p [] = p
last_of p (b ∷ s) = last_of b s

-- the class and the separator of one byte, and what is asked of those behind it
joined : (c sp st f e l : Bool) → (c ≡ true → st ≡ f && e && l) → c && sp && st ≡ sp && f && (c && e) && l
joined true true st f e l h = h refl
joined true false st f e l h = refl
joined false true st true e l h = refl
joined false true st false e l h = refl
joined false false st f e l h = refl

module _ (form : Form) where
  pub steps_scan : (p : ℕ) (s : List ℕ) → cleared form p ≡ true
      → steps form p s ≡ follow (high_of form) p s && every (cleared form) s && not (eqb (last_of p s) (separator form))
  unfolding steps follow
  steps_scan p [] h = refl
  steps_scan p (b ∷ s) h =
      rw (pair_right form p b h)
      (joined (cleared form b) (spaced (high_of form) p b) (steps form b s) (follow (high_of form) b s) (every (cleared form) s)
      (not (eqb (last_of b s) (separator form))) (steps_scan b s))
