-- What a scan sees of a text, and what that says of its elements.
use Rattle.std.proofs.Common.{◌≡◌, refl, ap, ap₂, ◌∙◌, Bool, true, false, not, ◌&&◌, ◌||◌, List, [], ◌∷◌, ℕ, zero, suc, ◌-◌, arith, leb, eqb, length}
use Rattle.std.proofs.Common.{get_or, le-leb, eq-eqb, eqb-true}
use mathlib.Core.Bool.{and-false, or-false}
use Rattle.wire.specs.Lists.{every}
use Rattle.wire.proofs.Tests.{clash, refute}
use Rattle.wire.specs.Bytes.{byte}
use Rattle.names.specs.declared.Form.{Form}
use Rattle.names.specs.Names.{digit, leads, separator, character, cut, pieces}
use Rattle.names.specs.Classes.{dot_bit, class_of}
use Rattle.names.specs.Scan.{clear, ranged, spaced, spaced_run, clear_run, all_bits, Walks}
use Rattle.names.proofs.Follow.{many, high_of, near, cleared, cleared_is, no_dot}
use Rattle.names.proofs.Near.{listed, steps, apart, listed_steps, follow, last_of, steps_scan}

-- ---- from indexes to the text

shifted : (f : ℕ → Bool) (a n : ℕ) → ranged f (suc a) n ≡ ranged (λ i. f (suc i)) a n
unfolding ranged
shifted f a zero = refl
shifted f a (suc n) = ap (λ (t : Bool). f (suc a) && t) (shifted f (suc a) n)

follow_run : (high x : ℕ) (s : List ℕ) → spaced_run high (x ∷ s) 0 (length s) ≡ follow high x s
unfolding ranged follow
follow_run high x [] = refl
follow_run high x (b ∷ s) =
    ap (λ (t : Bool). spaced high x b && t)
    (shifted (λ i. spaced high (get_or (x ∷ b ∷ s) i 0) (get_or (x ∷ b ∷ s) (suc i) 0)) 0 (length s) ∙ follow_run high b s)

clear_run_lem : (m : ℕ) (s : List ℕ) → clear_run m s 0 (length s) ≡ every (λ b. clear m (class_of b)) s
unfolding ranged
clear_run_lem m [] = refl
clear_run_lem m (b ∷ s) =
    ap (λ (t : Bool). clear m (class_of b) && t) (shifted (λ i. clear m (class_of (get_or (b ∷ s) i 0))) 0 (length s) ∙ clear_run_lem m s)

pub last_is : (x : ℕ) (s : List ℕ) → get_or (x ∷ s) (length s) 0 ≡ last_of x s
last_is x [] = refl
last_is x (b ∷ s) = last_is b s

-- no bit of m is in what a scan has seen where the pairs are good and no byte behind the first has one
pub seen_is : {high x w : ℕ} {s : List ℕ} → Walks high (x ∷ s) w → (m : ℕ) → clear m all_bits ≡ false
    → clear m w ≡ follow high x s && every (λ b. clear m (class_of b)) s
seen_is {high} {x} {w} {s} z m h =
    let e : length (x ∷ s) - 1 ≡ length s = omega arith in
    z.none m h
    ∙ rw (e, follow_run high x s, shifted (λ i. clear m (class_of (get_or (x ∷ s) i 0))) 0 (length s), clear_run_lem m s)

-- ---- dots

-- there are two pieces where a separator stands
pub parted : (sep : ℕ) (s : List ℕ) → leb 2 (length (pieces sep s)) ≡ not (every (λ b. not (eqb b sep)) s)
parted sep [] = refl
parted sep (b ∷ s) = go (eqb b sep) refl (parted sep s)
  where
    go : (t : Bool) → eqb b sep ≡ t → leb 2 (length (pieces sep s)) ≡ not (every (λ b. not (eqb b sep)) s)
        → leb 2 (length (pieces sep (b ∷ s))) ≡ not (not t && every (λ b. not (eqb b sep)) s)
    go true e ih = rw e (le-leb 2 (suc (suc (length (cut sep s).1))) (omega arith))
    go false e ih = rw e ih

pub no_dots : (sep : ℕ) → sep ≡ byte "." → (s : List ℕ) → every (λ b. clear dot_bit (class_of b)) s ≡ every (λ b. not (eqb b sep)) s
no_dots sep e [] = refl
no_dots sep e (b ∷ s) =
    let f : clear dot_bit (class_of b) ≡ not (eqb b sep) = rw e (no_dot b) in
    ap₂ ◌&&◌ f (no_dots sep e s)

-- ---- elements, as a scan sees them

-- the character may begin an element
abbrev pub opens : Form → ℕ → Bool
opens form x = character form x && (leads form || not (digit x))

module _ (form : Form) (x : ℕ) where
  begun : near form (separator form) x ≡ opens form x
  unfolding near
  begun = rw (eq-eqb (separator form) (separator form) refl, and-false (many form && eqb x (separator form)), or-false (leads form))

  pub cleared_character : character form x ≡ true → cleared form x ≡ true
  cleared_character h = cleared_is form x ∙ rw h

  pub apart_character : character form x ≡ true → eqb x (separator form) ≡ false
  apart_character h = refute (eqb x (separator form)) (λ e. clash h (rw (eqb-true x (separator form) e) (apart form)))

  -- the first byte, and what the scan sees of those behind it
  pub listed_scan : (s : List ℕ)
      → listed form (x ∷ s) ≡ opens form x && (follow (high_of form) x s && every (cleared form) s && not (eqb (last_of x s) (separator form)))
  unfolding steps
  listed_scan s =
      listed_steps form (x ∷ s)
      ∙ rw begun
      (either_way (character form x) (leads form || not (digit x)) (steps form x s)
      (follow (high_of form) x s && every (cleared form) s && not (eqb (last_of x s) (separator form)))
      (λ h. steps_scan form x s (cleared_character h)))
    where
      either_way : (c l p q : Bool) → (c ≡ true → p ≡ q) → c && l && p ≡ c && l && q
      either_way true l p q h = ap (λ (t : Bool). l && t) (h refl)
      either_way false l p q h = refl
