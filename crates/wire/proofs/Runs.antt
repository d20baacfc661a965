-- A loop over bytes: the invariant says what is left to do, and there is a law for each way through the loop.
use mathlib.Core.Path.{◌≡◌, refl, sym, ◌∙◌}
use mathlib.Core.List.{List, ◌++◌, append-nil}
use Prim.Native.Nat.{ℕ, suc, ◌+◌, ◌≤◌, ◌<◌}
use native.Mathlib.Omega.{arith}
use native.Mathlib.Nat.{le_antisymm}
use native.Mathlib.Numerals.{add-one}
use lib.ListN.{length, take, drop, get_or, set, length-set, drop_of_length-le}
use lib.Seq.{drop-cons, take-length, set_at, take-suc, length-take-le, append_snoc}
use borrow.Author.Rules.{rules}

-- ---- a copy: what stands already, and what is still the old

pub record Copying (d₀ src d : List ℕ) (i : ℕ) : Type 0 where
  pub inside : i ≤ length src
  pub sized : length d ≡ length src
  pub whole : length d₀ ≡ length src
  pub left : d ≡ take i src ++ drop i d₀

pub copying_begin : {d src : List ℕ} → length d ≡ length src → Copying d src d 0
copying_begin h = record { inside = omega arith; sized = h; whole = h; left = refl }

module _ {d₀ src d : List ℕ} {i : ℕ} (z : Copying d₀ src d i) where
  pub copying_more : i < length src → Copying d₀ src (set d i (get_or src i 0)) (i + 1)
  copying_more h =
      let w : length d₀ ≡ length src = z.whole in
      record {
        inside = omega arith;
        sized = length-set d i (get_or src i 0) ∙ z.sized;
        whole = w;
        left =
            rw (z.left, drop-cons d₀ i 0 (omega arith), add-one, take-suc src i 0 h)
            (set_at (take i src) (get_or d₀ i 0) (drop (suc i) d₀) (get_or src i 0) i (length-take-le i src (omega arith))
            ∙ sym (append_snoc (take i src) (get_or src i 0) (drop (suc i) d₀)));
      }

  pub copying_end : length src ≤ i → d ≡ src
  copying_end h =
      let k : i ≡ length src = le_antisymm z.inside h in
      z.left ∙ rw (drop_of_length-le d₀ {i = i} (omega arith), append-nil {A = ℕ}, k, take-length)

pub ruleset copying = (copying_begin, copying_more, copying_end, rules)
