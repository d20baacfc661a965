-- The whole scan: a law for each way through it. What has been walked is some pairs from the start of the text on.
use Rattle.std.proofs.Common.{◌≡◌, refl, sym, ◌∙◌, Bool, true, false, not, List, ℕ, suc, ◌+◌, ◌-◌, ◌≤◌, ◌<◌, arith, zero-add, bit_or, length, get_or}
use Rattle.std.proofs.Common.{rules}
use mathlib.Core.Bool.{and-false}
use borrow.Author.Tests.{not-true, not-false}
use Rattle.names.specs.Scan.{ranged, spaced, spaced_run, Gathers, all_bits, Walks}
use Rattle.names.proofs.Runs.{ranged_add, twice, gathers_none, gathers_twice}

pub record Walked (high : ℕ) (s : List ℕ) (i seen : ℕ) : Type 0 where
  pub inside : i < length s
  pub clear_so_far : spaced_run high s 0 i ≡ true
  pub seen_so_far : Gathers s 1 i seen

module _ (high : ℕ) (s : List ℕ) where
  abbrev test : ℕ → Bool
  test i = spaced high (get_or s i 0) (get_or s (suc i) 0)

  broken : (i k : ℕ) → i + k < length s → spaced_run high s i k ≡ false → spaced_run high s 0 (length s - 1) ≡ false
  broken i k h q =
      let rest = length s - 1 - i - k in
      let e : length s - 1 ≡ i + (k + rest) = omega arith in
      rw (e, ranged_add test 0 i (k + rest), zero-add i, ranged_add test i k rest, q) (and-false (ranged test 0 i))

module _ {high : ℕ} {s : List ℕ} where
  pub walked_begin : 0 < length s → Walked high s 0 0
  unfolding ranged
  walked_begin h = record { inside = h; clear_so_far = refl; seen_so_far = gathers_none }

  -- a block of k pairs that breaks the rule, wherever it stands
  stopped : (i k : ℕ) → i + k < length s → {r : Bool} → r ≡ spaced_run high s i k → not r ≡ true → Walks high s all_bits
  stopped i k h {r} e t = record { none = λ m f. f ∙ sym (rw (broken high s i k h (sym e ∙ not-true r t))) }

  module _ {i seen : ℕ} (z : Walked high s i seen) where
    -- a block more
    walked_more : (k : ℕ) → i + k < length s → {r : Bool} → r ≡ spaced_run high s i k → not r ≡ false → {g : ℕ} → Gathers s (i + 1) k g
        → Walked high s (i + k) (bit_or seen g)
    walked_more k h {r} e t g =
        let l : i + 1 + k - 1 ≡ i + k = omega arith in
        record {
          inside = h;
          clear_so_far = ranged_add (test high s) 0 i k ∙ rw (zero-add i, z.clear_so_far, ← e, not-false r t);
          seen_so_far = rw l at (gathers_twice z.seen_so_far g (omega arith) (omega arith) (omega arith));
        }

    -- the last block, which may overlap what has been walked
    walked_lap : (last k : ℕ) → last + k + 1 ≡ length s → last ≤ i → {r : Bool} → r ≡ spaced_run high s last k → not r ≡ false
        → {g : ℕ} → Gathers s (last + 1) k g → Walks high s (bit_or seen g)
    walked_lap last k h l {r} e t {g} f =
        let n : last + k - 0 ≡ length s - 1 = omega arith in
        let m : last + 1 + k - 1 ≡ length s - 1 = omega arith in
        let in_all : spaced_run high s 0 (length s - 1) ≡ true =
        rw (← n) (sym (twice (test high s) 0 last i k (omega arith) (omega arith) (omega arith)) ∙ rw (z.clear_so_far, ← e, not-false r t)) in
        let all : Gathers s 1 (length s - 1) (bit_or seen g) = rw m at (gathers_twice z.seen_so_far f (omega arith) (omega arith) (omega arith)) in
        record { none = λ j q. rw in_all (all.none j) }

-- ---- two blocks

module _ {high : ℕ} {s : List ℕ} {w : ℕ} (h : w < length s) where
  pub first_stopped : {r : Bool} → r ≡ spaced_run high s 0 w → not r ≡ true → Walks high s all_bits
  first_stopped e t = stopped 0 w (omega arith) e t

  pub last_stopped : {r : Bool} → r ≡ spaced_run high s (length s - 1 - w) w → not r ≡ true → Walks high s all_bits
  last_stopped e t = stopped (length s - 1 - w) w (omega arith) e t

  pub two_end : length s ≤ w + w + 1 → {p q : Bool} → p ≡ spaced_run high s 0 w → not p ≡ false → q ≡ spaced_run high s (length s - 1 - w) w → not q ≡ false
      → {a b : ℕ} → Gathers s 1 w a → Gathers s (length s - 1 - w + 1) w b → Walks high s (bit_or a b)
  two_end k {p} e t f u g j =
      walked_lap (record { inside = h; clear_so_far = sym e ∙ not-false p t; seen_so_far = g }) (length s - 1 - w) w (omega arith) (omega arith) f u j

pub ruleset two = (first_stopped, last_stopped, two_end, rules)

-- ---- blocks

-- what has been walked in blocks of w pairs
pub record Strides (high : ℕ) (s : List ℕ) (w i seen : ℕ) : Type 0 where
  pub fits : w < length s
  pub so_far : Walked high s i seen

module _ {high : ℕ} {s : List ℕ} {w : ℕ} where
  pub strides_begin : w < length s → Strides high s w 0 0
  strides_begin h = record { fits = h; so_far = walked_begin (omega arith) }

  module _ {i seen : ℕ} (z : Strides high s w i seen) where
    pub strides_more : i < length s - 1 - w → {r : Bool} → r ≡ spaced_run high s i w → not r ≡ false → {g : ℕ} → Gathers s (i + 1) w g
        → Strides high s w (i + w) (bit_or seen g)
    strides_more h e t g = record { fits = z.fits; so_far = walked_more z.so_far w (omega arith) e t g }

    pub block_stopped : i < length s - 1 - w → {r : Bool} → r ≡ spaced_run high s i w → not r ≡ true → Walks high s all_bits
    block_stopped h e t = stopped i w (omega arith) e t

    pub strides_end : length s - 1 - w ≤ i → {r : Bool} → r ≡ spaced_run high s (length s - 1 - w) w → not r ≡ false
        → {g : ℕ} → Gathers s (length s - 1 - w + 1) w g → Walks high s (bit_or seen g)
    strides_end l e t g =
        let h = z.fits in
        walked_lap z.so_far (length s - 1 - w) w (omega arith) l e t g

pub ruleset blocks = (strides_begin, strides_more, block_stopped, last_stopped, strides_end, rules)

-- ---- a text of one byte has no pairs

pub lone : (high : ℕ) (s : List ℕ) → length s - 1 ≡ 0 → Walks high s 0
unfolding ranged
lone high s e = record { none = λ m f. rw e }
