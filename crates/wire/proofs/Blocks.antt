-- Runs of zeros and equal texts, block by block: a law for each way through the loops.
use Rattle.std.proofs.Common.{◌≡◌, refl, sym, ap, ap₂, ◌∙◌, Bool, true, false, not, ◌&&◌, List, ◌++◌, ℕ, ◌+◌, ◌-◌, ◌≤◌, ◌<◌, arith, eqb, length, take}
use Rattle.std.proofs.Common.{drop, get_or, length-take, length-drop, take-add, drop-drop, rules}
use mathlib.Core.Bool.{and-true}
use native.Mathlib.Nat.{sub-zero}
use lib.Seq.{take-length}
use borrow.Author.Tests.{not-true, not-false}
use Rattle.wire.specs.Bytes.{all_zero, same}
use Rattle.wire.proofs.From.{next}
use Rattle.wire.proofs.Texts.{zero_append, same_append, same_length}
use Rattle.wire.proofs.Words.{cut_at}
use Rattle.wire.proofs.Ranges.{Divides, range_grows, range_laps, range_breaks, range_twice}

-- ---- the two tests of a range

abbrev pub zeroes : List ℕ → ℕ → ℕ → Bool
zeroes s a b = all_zero (take (b - a) (drop a s))

abbrev equals : List ℕ → List ℕ → ℕ → ℕ → Bool
equals x y a b = same (take (b - a) (drop a x)) (take (b - a) (drop a y))

-- a range is what stands up to b, and what stands from b on
cut : (s : List ℕ) (a b c : ℕ) → a ≤ b → b ≤ c → take (c - a) (drop a s) ≡ take (b - a) (drop a s) ++ take (c - b) (drop b s)
cut s a b c h k =
    let e : c - a ≡ (b - a) + (c - b) = omega arith in
    let f : a + (b - a) ≡ b = omega arith in
    rw (e, take-add (b - a) (c - b) (drop a s), drop-drop (b - a) a s, f)

pub zeroes_divides : (s : List ℕ) → Divides (zeroes s)
zeroes_divides s a b c h k = rw (cut s a b c h k) (zero_append (take (b - a) (drop a s)) (take (c - b) (drop b s)))

equals_divides : (x y : List ℕ) → length x ≡ length y → Divides (equals x y)
equals_divides x y e a b c h k =
    rw (cut x a b c h k, cut y a b c h k)
    (same_append (take (b - a) (drop a x)) (take (b - a) (drop a y)) (take (c - b) (drop b x)) (take (c - b) (drop b y))
    (simp (length-take, length-drop, e)))

-- ---- what a test found

module _ {r b : Bool} (e : r ≡ b) where
  pub seen_clear : not r ≡ false → b ≡ true
  seen_clear n = sym e ∙ not-false r n

  pub seen_broken : not r ≡ true → b ≡ false
  seen_broken n = sym e ∙ not-true r n

-- ---- zeros

pub record Zeros (s : List ℕ) (from to i : ℕ) : Type 0 where
  pub low : from ≤ i
  pub high : i ≤ to
  pub inside : to ≤ length s
  pub clear : zeroes s from i ≡ true

pub zeros_begin : {s : List ℕ} {from to : ℕ} → from ≤ to → to ≤ length s → Zeros s from to from
unfolding all_zero
zeros_begin {s} {from} h k =
    let e : from - from ≡ 0 = omega arith in
    record { low = omega arith; high = h; inside = k; clear = rw e }

module _ {s : List ℕ} {from to i : ℕ} (z : Zeros s from to i) where
  -- a block of k bytes more is looked at
  module _ (k : ℕ) (h : i < to - k) where
    pub zeros_more : all_zero (take k (drop i s)) ≡ true → Zeros s from to (i + k)
    zeros_more e =
        record {
          low = omega arith;
          high = omega arith;
          inside = z.inside;
          clear = range_grows (zeroes s) (zeroes_divides s) from i (i + k) z.low (omega arith) z.clear (rw (cut_at i k s) e);
        }

    pub zeros_stop : all_zero (take k (drop i s)) ≡ false → false ≡ zeroes s from to
    zeros_stop e =
        sym (range_breaks (zeroes s) (zeroes_divides s) from i (i + k) to z.low (omega arith) (omega arith) (rw (cut_at i k s) e))

  -- the last block, which may overlap the one before it
  pub zeros_lap : (k : ℕ) {r : Bool} → r ≡ all_zero (take k (drop (to - k) s)) → k ≤ to - from → to - k ≤ i → r ≡ zeroes s from to
  zeros_lap k e l h =
      let f : to - (to - k) ≡ k = omega arith in
      e ∙ ap (λ (n : ℕ). all_zero (take n (drop (to - k) s))) (sym f)
      ∙ sym (range_laps (zeroes s) (zeroes_divides s) from (to - k) i to (omega arith) h z.high z.clear)

-- four bytes at each end, which may overlap
pub zeros_twice : (s : List ℕ) (from to : ℕ) {p q : Bool} → p ≡ all_zero (take 4 (drop from s)) → q ≡ all_zero (take 4 (drop (to - 4) s))
    → 4 ≤ to - from → to - from < 8 → p && q ≡ zeroes s from to
zeros_twice s from to e f l h =
    let m : to - (to - 4) ≡ 4 = omega arith in
    ap₂ ◌&&◌ (e ∙ ap all_zero (sym (cut_at from 4 s))) (f ∙ ap (λ (n : ℕ). all_zero (take n (drop (to - 4) s))) (sym m))
    ∙ range_twice (zeroes s) (zeroes_divides s) from (to - 4) (from + 4) to (omega arith) (omega arith) (omega arith)

-- one byte after another, with no exit
module _ (s : List ℕ) (at : ℕ) where
  pub run_begin : true ≡ all_zero (take 0 (drop at s))
  unfolding all_zero
  run_begin = refl

  pub run_more : (i : ℕ) {clear : Bool} → clear ≡ all_zero (take i (drop at s)) → at + i < length s
      → clear && eqb (get_or s (at + i) 0) 0 ≡ all_zero (take (i + 1) (drop at s))
  unfolding all_zero
  run_more i e h =
      rw (
        e,
        take-add i 1 (drop at s),
        zero_append (take i (drop at s)) (take 1 (drop i (drop at s))),
        drop-drop i at s,
        next s (at + i) h,
        and-true,
      )

pub ruleset runs = (run_begin, run_more, rules)

pub ruleset zeros = (zeros_begin, zeros_more, zeros_stop, zeros_lap, zeros_twice, seen_clear, seen_broken, rules)

-- ---- equal texts

pub record Equals (a b : List ℕ) (i : ℕ) : Type 0 where
  pub long : length a ≡ length b
  pub high : i ≤ length a
  pub clear : equals a b 0 i ≡ true

-- the whole of a text, as a range
all : (s : List ℕ) → take (length s - 0) (drop 0 s) ≡ s
all s = rw (sub-zero (length s)) (take-length s)

whole : (a b : List ℕ) → length a ≡ length b → equals a b 0 (length a) ≡ same a b
whole a b e = ap₂ same (all a) (rw e (all b))

pub equals_length : (a b : List ℕ) → (length a ≡ length b → ⊥) → false ≡ same a b
equals_length a b h = sym (same_length a b h)

pub equals_begin : {a b : List ℕ} → length a ≡ length b → Equals a b 0
unfolding same
equals_begin h = record { long = h; high = omega arith; clear = refl }

-- the bytes of both from i on
part : (a b : List ℕ) (i k : ℕ) → equals a b i (i + k) ≡ same (take k (drop i a)) (take k (drop i b))
part a b i k = ap₂ same (cut_at i k a) (cut_at i k b)

-- the last k bytes of both
last : (a b : List ℕ) (k : ℕ) → k ≤ length a → same (take k (drop (length a - k) a)) (take k (drop (length a - k) b)) ≡ equals a b (length a - k) (length a)
last a b k h =
    let f : length a - (length a - k) ≡ k = omega arith in
    rw f

module _ {a b : List ℕ} {i : ℕ} (z : Equals a b i) where
  pub equals_more : same (take 8 (drop i a)) (take 8 (drop i b)) ≡ true → i < length a - 8 → Equals a b (i + 8)
  equals_more e h =
      record {
        long = z.long;
        high = omega arith;
        clear =
            range_grows (equals a b) (equals_divides a b z.long) 0 i (i + 8) (omega arith) (omega arith) z.clear
            (part a b i 8 ∙ e);
      }

  pub equals_stop : same (take 8 (drop i a)) (take 8 (drop i b)) ≡ false → i < length a - 8 → false ≡ same a b
  equals_stop e h =
      sym (sym (whole a b z.long)
      ∙ range_breaks (equals a b) (equals_divides a b z.long) 0 i (i + 8) (length a) (omega arith) (omega arith) (omega arith)
      (part a b i 8 ∙ e))

  -- the last word was equal, and so is all before it
  pub equals_lap : same (take 8 (drop (length a - 8) a)) (take 8 (drop (length a - 8) b)) ≡ true → 8 ≤ length a → length a - 8 ≤ i → true ≡ same a b
  equals_lap e l h =
      sym e ∙ last a b 8 l
      ∙ sym (range_laps (equals a b) (equals_divides a b z.long) 0 (length a - 8) i (length a) (omega arith) h z.high z.clear)
      ∙ whole a b z.long

-- the last word differs
pub equals_end : (a b : List ℕ) → same (take 8 (drop (length a - 8) a)) (take 8 (drop (length a - 8) b)) ≡ false → length a ≡ length b → 8 ≤ length a
    → false ≡ same a b
equals_end a b e m l =
    sym (sym (whole a b m)
    ∙ range_breaks (equals a b) (equals_divides a b m) 0 (length a - 8) (length a) (length a) (omega arith) (omega arith) (omega arith)
    (sym (last a b 8 l) ∙ e))

-- four bytes at each end, which may overlap
pub equals_twice : (a b : List ℕ) {p q : Bool} → p ≡ same (take 4 (drop 0 a)) (take 4 (drop 0 b))
    → q ≡ same (take 4 (drop (length a - 4) a)) (take 4 (drop (length a - 4) b)) → length a ≡ length b → 4 ≤ length a → length a < 8 → p && q ≡ same a b
equals_twice a b e f m l h =
    ap₂ ◌&&◌ (e ∙ sym (part a b 0 4)) (f ∙ last a b 4 l)
    ∙ range_twice (equals a b) (equals_divides a b m) 0 (length a - 4) 4 (length a) (omega arith) (omega arith) l
    ∙ whole a b m
