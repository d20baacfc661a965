-- Runs of a text: a test of a range of indexes, the classes of a run of bytes together, and the pairs of a run.
use Rattle.std.proofs.Common.{◌≡◌, refl, sym, ap₂, ◌∙◌, Bool, true, ◌&&◌, List, ℕ, zero, suc, ◌+◌, ◌-◌, ◌≤◌, ◌<◌, arith, add-zero, zero-add, suc-add}
use Rattle.std.proofs.Common.{add-suc, add-one, bit_or, length, get_or, rules}
use mathlib.Core.Bool.{and-true, and_assoc}
use native.Mathlib.Nat.{add-sub_cancel_left}
use Rattle.wire.proofs.Ranges.{Divides, range_twice}
use Rattle.names.specs.Classes.{class_of}
use Rattle.names.specs.Scan.{clear, ranged, spaced, spaced_run, Gathers}
use Rattle.names.proofs.Bits.{clear_both}

-- ---- ranges of indexes

module _ (f : ℕ → Bool) where
  pub ranged_add : (a n m : ℕ) → ranged f a (n + m) ≡ ranged f a n && ranged f (a + n) m
  unfolding ranged
  ranged_add a zero m = rw (zero-add m, add-zero a)
  ranged_add a (suc n) m =
      rw (suc-add n m, ranged_add (suc a) n m, suc-add a n, add-suc a n, and_assoc (f a) (ranged f (suc a) n) (ranged f (suc (a + n)) m))

  -- one index more
  pub ranged_more : (a n : ℕ) → ranged f a (n + 1) ≡ ranged f a n && f (a + n)
  unfolding ranged
  ranged_more a n = ranged_add a n 1 ∙ rw (and-true (f (a + n)))

  -- from one index up to another
  abbrev upto : ℕ → ℕ → Bool
  upto a b = ranged f a (b - a)

  upto_divides : Divides upto
  upto_divides a b c h k =
      let e : c - a ≡ (b - a) + (c - b) = omega arith in
      let g : a + (b - a) ≡ b = omega arith in
      rw (e, ranged_add a (b - a) (c - b), g)

  block : (a k : ℕ) → ranged f a k ≡ upto a (a + k)
  block a k = rw (add-sub_cancel_left a k)

  -- two blocks that overlap, the one from a and the other from m on
  pub twice : (a m k n : ℕ) → a ≤ m → m ≤ a + k → a + k ≤ m + n → ranged f a k && ranged f m n ≡ ranged f a (m + n - a)
  twice a m k n h l g = rw (block a k, block m n) (range_twice upto upto_divides a m (a + k) (m + n) h l g)

-- ---- the classes of a run

pub gathers_none : {s : List ℕ} {a : ℕ} → Gathers s a 0 0
unfolding ranged
gathers_none = record { none = λ m. refl }

pub gathers_more : {s : List ℕ} {a n r : ℕ} → Gathers s a n r → {k : ℕ} → k ≡ class_of (get_or s (a + n) 0) → Gathers s a (n + 1) (bit_or r k)
gathers_more {s} {a} {n} {r} g {k} e =
    record { none = λ m. clear_both m r k ∙ rw (g.none m, e, ranged_more (λ i. clear m (class_of (get_or s i 0))) a n) }

-- two runs, which may overlap
pub gathers_twice : {s : List ℕ} {a k m n p q : ℕ} → Gathers s a k p → Gathers s m n q → a ≤ m → m ≤ a + k → a + k ≤ m + n
    → Gathers s a (m + n - a) (bit_or p q)
gathers_twice {s} {a} {k} {m} {n} {p} {q} g h x y z =
    record { none = λ j. clear_both j p q ∙ rw (g.none j, h.none j) (twice (λ i. clear j (class_of (get_or s i 0))) a m k n x y z) }

pub ruleset gathering = (gathers_none, gathers_more, rules)

-- ---- the pairs of a run, with no exit

module _ (high : ℕ) (s : List ℕ) (at : ℕ) where
  pub pairs_none : true ≡ spaced_run high s at 0
  unfolding ranged
  pairs_none = refl

  pub pairs_more : (i : ℕ) {good r : Bool} → good ≡ spaced_run high s at i → r ≡ spaced high (get_or s (at + i) 0) (get_or s (at + i + 1) 0)
      → good && r ≡ spaced_run high s at (i + 1)
  pairs_more i h e =
      ap₂ ◌&&◌ h (e ∙ rw (add-one (at + i))) ∙ sym (ranged_more (λ j. spaced high (get_or s j 0) (get_or s (suc j) 0)) at i)

pub ruleset pairing = (pairs_none, pairs_more, rules)
