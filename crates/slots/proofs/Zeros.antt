-- Zeros in memory, in front of which something is written.
use mathlib.Core.Path.{◌≡◌, sym, ap, ◌∙◌}
use mathlib.Core.List.{List, ◌++◌}
use Prim.Native.Nat.{ℕ, ◌+◌, ◌-◌, ◌≤◌}
use lib.ListN.{take, drop, replicate, length-replicate}
use lib.Seq.{drop-drop, drop-append-le}
use Rattle.wire.proofs.Parts.{drop_zeros, zeros_front}

-- what stands behind the first x of w zeros
pub zero_rest : (m : List ℕ) (a w x : ℕ) → x ≤ w → take w (drop a m) ≡ replicate w 0 → drop (a + x) m ≡ replicate (w - x) 0 ++ drop (a + w) m
zero_rest m a w x h e =
    sym (drop-drop x a m)
    ∙ ap (drop x) (zeros_front m a w e)
    ∙ drop-append-le x (replicate w 0) (drop (a + w) m) (rw (length-replicate {A = ℕ} w 0) h)
    ∙ ap (λ (z : List ℕ). z ++ drop (a + w) m) (drop_zeros x w)
