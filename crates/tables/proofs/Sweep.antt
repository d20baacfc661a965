-- A loop that changes each part in turn. Its invariant: what is to come out is what stands before part i already, and what the rest comes to.
use Prim.Native.Nat.{ℕ, zero, suc, ◌+◌, ◌-◌, ◌*◌, ◌<◌, ◌≤◌}
use mathlib.Core.List.{List, ◌++◌, append_assoc}
use mathlib.Core.Path.{◌≡◌, sym, ◌∙◌}
use native.Mathlib.Omega.{arith}
use lib.ListN.{length, take, drop, length-append, take-append-drop}
use lib.Seq.{take_at, drop_at, drop-drop, length-take-le}

-- f done to each of the first n parts of w bytes
unfoldable pub sweep : (List ℕ → List ℕ) → ℕ → ℕ → List ℕ → List ℕ
sweep f w zero m = m
sweep f w (suc n) m = f (take w m) ++ sweep f w n (drop w m)

-- what part i on comes to
abbrev pub swept : (List ℕ → List ℕ) → ℕ → ℕ → ℕ → List ℕ → List ℕ
swept f w n i m = take (w * i) m ++ sweep f w (n - i) (drop (w * i) m)

module _ (f : List ℕ → List ℕ) (w n : ℕ) where
  pub sweep_begins : (m : List ℕ) → sweep f w n m ≡ swept f w n 0 m
  sweep_begins m =
      let e : w * 0 ≡ 0 = omega arith in
      let d : n - 0 ≡ n = omega arith in
      rw (e, d)

  pub sweep_ends : (m : List ℕ) (i : ℕ) → n ≤ i → swept f w n i m ≡ m
  unfolding sweep
  sweep_ends m i h =
      let d : n - i ≡ 0 = omega arith in
      rw d (take-append-drop (w * i) m)

  -- part i changed, the others as they were
  pub sweep_step : (t m y : List ℕ) (i : ℕ) → i < n → w * i + w ≤ length m → length y ≡ w → t ≡ swept f w n i m → y ≡ f (take w (drop (w * i) m))
      → t ≡ swept f w n (i + 1) (take (w * i) m ++ (y ++ drop (w * i + w) m))
  unfolding sweep
  sweep_step t m y i h l ly q e =
      let d : n - i ≡ suc (n - (i + 1)) = omega arith in
      let s : w * (i + 1) ≡ w * i + w = omega arith in
      let k : length (take (w * i) m ++ y) ≡ w * i + w = length-append (take (w * i) m) y ∙ omega (arith, length-take-le (w * i) m (omega arith)) in
      let a : take (w * i) m ++ (y ++ drop (w * i + w) m) ≡ (take (w * i) m ++ y) ++ drop (w * i + w) m =
      sym (append_assoc (take (w * i) m) y (drop (w * i + w) m)) in
      let u : swept f w n i m ≡ (take (w * i) m ++ y) ++ sweep f w (n - (i + 1)) (drop (w * i + w) m)
      = rw (d, ← e, drop-drop w (w * i) m) (sym (append_assoc (take (w * i) m) y (sweep f w (n - (i + 1)) (drop (w * i + w) m)))) in
      q ∙ u ∙ rw (s, a, take_at (take (w * i) m ++ y) (drop (w * i + w) m) (w * i + w) k, drop_at (take (w * i) m ++ y) (drop (w * i + w) m) (w * i + w) k)
