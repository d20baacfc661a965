-- A row of types that is being walked: how deep its types are nested, and where it ends.
use Rattle.std.proofs.Common.{◌≡◌, refl, sym, ◌∙◌, Bool, true, false, List, ℕ, zero, suc, ◌+◌, ◌-◌, ◌*◌, ◌≤◌, ◌<◌, max, arith, length, drop}
use Rattle.std.proofs.Common.{get_or, length-drop, rules}
use mathlib.Core.Option.{Option, none, some}
use native.Mathlib.Decide.{dec_le}
use Rattle.wire.proofs.From.{next, past}
use Rattle.signature.specs.Signature.{Row, one_more, row}
use Rattle.types.specs.Letters.{closes}
use Rattle.types.specs.Types.{behind}
use Rattle.types.specs.Promises.{EndAt}
use Rattle.types.specs.Nest.{kept, rest_of, fits, Nested, RowAt, NestsFrom}
use Rattle.types.proofs.Behind.{hops}
use Rattle.types.proofs.Nesting.{begins, on, fits_zero, fits_most, kept_both, row_shut, row_begins}

-- what is left of the row starts at j: whatever it comes to, the whole row comes to the same under the two limits
pub record Walking (s : List ℕ) (i j arrays parens : ℕ) : Type 0 where
  pub low : i ≤ j
  pub high : j ≤ length s
  pub left : behind 1 (drop i s) ≡ behind 1 (drop j s)
  pub first : i < j → closes (get_or s i 0) ≡ false
  pub rest : (a p : ℕ) (x : Option (List ℕ)) → ((f : ℕ) → 2 * length (drop j s) + 1 ≤ f → rest_of (row f a p (drop j s)) ≡ x)
      → (f : ℕ) → 2 * length (drop i s) + 1 ≤ f → rest_of (row f a p (drop i s)) ≡ kept (fits a p arrays parens) x

pub walking_begin : {s : List ℕ} {i : ℕ} → i ≤ length s → Walking s i i 0 0
walking_begin l =
    record { low = omega arith; high = l; left = refl; first = λ h. absurd (omega arith); rest = λ a p x h f m. rw (fits_zero a p) (h f m) }

module _ {s : List ℕ} {i j n m : ℕ} (w : Walking s i j n m) where
  -- no type is left
  stop : begins (drop j s) ≡ false → (j < length s → closes (get_or s j 0) ≡ true) → RowAt s i j n m
  stop h e =
      record {
        low = w.low;
        high = w.high;
        left = w.left;
        first = w.first;
        end = e;
        is = λ f a p l. w.rest a p (some (drop j s)) (λ g k. none_left g a p k) f l;
      }
    where
      none_left : (g a p : ℕ) → 2 * length (drop j s) + 1 ≤ g → rest_of (row g a p (drop j s)) ≡ some (drop j s)
      none_left zero a p k = absurd (omega arith)
      none_left (suc g) a p k = rw (row_shut g a p (drop j s) h)

  pub walking_end : length s ≤ j → RowAt s i j n m
  walking_end h = stop (rw (past s j h)) (λ l. absurd (omega arith))

  pub walking_closed : j < length s → closes (get_or s j 0) ≡ true → RowAt s i j n m
  walking_closed h c = stop (rw (next s j h, c)) (λ l. c)

  module _ (h : j < length s) (c : closes (get_or s j 0) ≡ false) where
    -- the type at j, and the row behind it
    one_more_lem : {e k l : ℕ} → EndAt s j e → Nested (drop j s) k l → (a p : ℕ) (x : Option (List ℕ))
        → ((f : ℕ) → 2 * length (drop e s) + 1 ≤ f → rest_of (row f a p (drop e s)) ≡ x)
        → (f : ℕ) → 2 * length (drop j s) + 1 ≤ f → rest_of (row f a p (drop j s)) ≡ kept (fits a p k l) x
    one_more_lem t r a p x q zero b = absurd (omega arith)
    one_more_lem {e} {k} {l} t r a p x q (suc f) b =
        rw (row_begins f a p (drop j s) (rw (next s j h, c)), r.is f a p (omega arith), ← t.is) (go (fits a p k l))
      where
        counted : (o : Option Row) → rest_of (one_more o) ≡ rest_of o
        counted none = refl
        counted (some r) = refl

        go : (y : Bool) → rest_of (on (row f a p) (kept y (some (drop e s)))) ≡ kept y x
        go true = counted (row f a p (drop e s)) ∙ q f (omega (arith, length-drop e s, length-drop j s, t.on, t.high))
        go false = refl

    pub walking_more : {ends arrays parens : List ℕ} → NestsFrom s ends arrays parens i → {e k l : ℕ}
        → k ≡ max n (get_or arrays j 0) → l ≡ max m (get_or parens j 0) → e ≡ get_or ends j 0 → Walking s i e k l
    walking_more {ends} {arrays} {parens} t {e} {k} {l} p q r =
        let end : EndAt s j e = rw r (t.table.types j w.low h c) in
        record {
          low = omega (arith, w.low, end.on);
          high = end.high;
          left = w.left ∙ sym (rw end.is (hops (drop j s)));
          first = λ l. go (dec_le (i + 1) j);
          rest = λ a b x z f y. rw (p, q, fits_most, kept_both)
              (w.rest a b (kept (fits a b (get_or arrays j 0) (get_or parens j 0)) x) (one_more_lem end (t.each j w.low (omega (arith, t.few))) a b x z) f y);
        }
      where
        go : Dec (i + 1 ≤ j) → closes (get_or s i 0) ≡ false
        go (yes l) = w.first (omega arith)
        go (no l) = let z : i ≡ j = omega (arith, l, w.low) in rw z c

    pub walking_less : {ends arrays parens : List ℕ} → NestsFrom s ends arrays parens i → {e : ℕ} → e ≡ get_or ends j 0 → length s - e < length s - j
    walking_less t r = omega (arith, (t.table.types j w.low h c).on)

pub ruleset walking = (walking_begin, walking_end, walking_closed, walking_more, walking_less, rules)
