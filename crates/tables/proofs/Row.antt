-- A row of words written, one after the other.
use mathlib.Core.Path.{◌≡◌, refl, sym, ap, ◌∙◌}
use mathlib.Core.List.{List, ◌++◌}
use Prim.Native.Nat.{ℕ, ◌+◌, ◌*◌, ◌≤◌, ◌<◌}
use native.Mathlib.Omega.{arith}
use native.Mathlib.Numerals.{add-one}
use lib.ListN.{length, take, drop, get_or, take-append-drop}
use lib.Seq.{take-suc, take_all, length-take-le}
use borrow.Author.Rules.{rules}
use Rattle.wire.specs.Words.{word_bytes}
use Rattle.wire.proofs.Words.{word_length}
use Rattle.tables.specs.Tables.{cells}
use Rattle.tables.proofs.Cells.{cells_length, cells_snoc}
use Rattle.wire.proofs.Parts.{put_joined}
use Rattle.tables.proofs.Written.{put_sized}

-- k of the words are written
pub record Putting (s₀ ws s : List ℕ) (at k : ℕ) : Type 0 where
  pub inside : k ≤ length ws
  pub room : at + 4 * length ws ≤ length s₀
  pub sized : length s ≡ length s₀
  pub left : s ≡ take at s₀ ++ (cells word_bytes (take k ws) ++ drop (at + 4 * k) s₀)

pub putting_begins : (s ws : List ℕ) (at : ℕ) → at + 4 * length ws ≤ length s → Putting s ws s at 0
unfolding cells
putting_begins s ws at h =
    let e : at + 4 * 0 ≡ at = omega arith in
    record { inside = omega arith; room = h; sized = refl; left = rw e (sym (take-append-drop at s)) }

module _ {s₀ ws s : List ℕ} {at k : ℕ} (p : Putting s₀ ws s at k) where
  pub putting_more : k < length ws → {u : List ℕ} → u ≡ take (at + 4 * k) s ++ (word_bytes (get_or ws k 0) ++ drop (at + 4 * k + 4) s)
      → Putting s₀ ws u at (k + 1)
  putting_more h {u} e =
      let c = cells word_bytes (take k ws) in
      let x = word_bytes (get_or ws k 0) in
      let r : at + 4 * length ws ≤ length s₀ = p.room in
      let l : length s ≡ length s₀ = p.sized in
      let lc : length c ≡ 4 * k = cells_length 4 word_bytes word_length (take k ws) ∙ omega (arith, length-take-le k ws (omega arith)) in
      let q : c ++ x ≡ cells word_bytes (take (k + 1) ws)
      = sym (ap (cells word_bytes) (rw add-one (take-suc ws k 0 h)) ∙ cells_snoc word_bytes (take k ws) (get_or ws k 0)) in
      let f : at + (4 * k + 4) ≡ at + 4 * (k + 1) = omega arith in
      record {
        inside = omega arith;
        room = r;
        sized = ap length e ∙ put_sized s x (at + 4 * k) 4 (omega arith) (word_length (get_or ws k 0)) ∙ l;
        left =
            e
            ∙ ap (λ (z : List ℕ). take (at + 4 * k) z ++ (x ++ drop (at + 4 * k + 4) z)) p.left
            ∙ put_joined s₀ c x at (4 * k) 4 (omega arith) lc
            ∙ rw (q, f);
      }

  pub putting_ends : length ws ≤ k → s ≡ take at s₀ ++ (cells word_bytes ws ++ drop (at + 4 * length ws) s₀)
  putting_ends h =
      let e : k ≡ length ws = omega arith in
      p.left ∙ rw (take_all k ws h, e)

pub ruleset putting = (putting_begins, putting_more, putting_ends, rules)
