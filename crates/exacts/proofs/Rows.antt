-- Rows as long as an own rule, put into a room one behind the other.
use mathlib.Core.Path.{◌≡◌, refl, sym, ap, ap₂, ◌∙◌}
use mathlib.Core.List.{List, [], ◌∷◌, ◌++◌, append-nil}
use Prim.Native.Nat.{ℕ, ◌+◌, ◌*◌, ◌≤◌}
use native.Mathlib.Omega.{arith}
use lib.ListN.{length, length-append, take-append-drop}
use Rattle.wire.proofs.Parts.{put_joined}
use Rattle.tables.specs.Tables.{cells}
use Rattle.tables.proofs.Cells.{cells_append}
use Rattle.tables.proofs.Written.{put_sized}
use Rattle.image.specs.Image.{rule_size}
use Rattle.image.specs.declared.Section.TheVariants.{Own}
use Rattle.prefixes.specs.Converted.{joined}
use Rattle.exacts.specs.Promises.{put, Puts}

-- bytes put behind bytes that were put
pub put_behind : (m x y : List ℕ) (at : ℕ) {u : List ℕ} {n : ℕ} → u ≡ put at x m → n ≡ at + length x → n ≤ length m → put n y u ≡ put at (x ++ y) m
put_behind m x y at e q h =
    ap₂ (λ (k : ℕ) (z : List ℕ). put k y z) q e ∙ put_joined m x y at (length x) (length y) (omega arith) refl ∙ rw (length-append x y)

pub put_long : (m x : List ℕ) (at : ℕ) → at + length x ≤ length m → length (put at x m) ≡ length m
put_long m x at h = put_sized m x at (length x) h refl

-- ---- rows

pub puts_none : (m : List ℕ) (at : ℕ) → Puts [] at m at m
unfolding cells
puts_none m at = record { long = refl; ends = omega arith; left = sym (take-append-drop at m) }

pub puts_one : (m row u : List ℕ) (at : ℕ) → length row ≡ rule_size Own → u ≡ put at row m → Puts (row ∷ []) at m (at + rule_size Own) u
unfolding cells
puts_one m row u at r e =
    record { long = ap length (append-nil row) ∙ r; ends = refl; left = e ∙ rw (append-nil row, r) }

module _ {a : List (List ℕ)} {at : ℕ} {m : List ℕ} {e : ℕ} {u : List ℕ} (p : Puts a at m e u) where
  -- the bytes that are put
  pub puts_put : u ≡ put at (joined a) m
  puts_put = p.left ∙ rw (p.ends, p.long)

  pub puts_long : e ≤ length m → length u ≡ length m
  puts_long h = ap length puts_put ∙ put_long m (joined a) at (omega (arith, p.ends, p.long))

module _ {a : List (List ℕ)} {at : ℕ} {m : List ℕ} {e : ℕ} {u : List ℕ} (p : Puts a at m e u) where
  pub puts_behind : {b : List (List ℕ)} {f : ℕ} {v : List ℕ} → Puts b e u f v → e ≤ length m → Puts (a ++ b) at m f v
  puts_behind {b} {f} {v} q h =
      let l : length (joined (a ++ b)) ≡ rule_size Own * length (a ++ b)
      = rw (cells_append (λ part. part) a b) (length-append (joined a) (joined b) ∙ omega (arith, p.long, q.long, length-append a b)) in
      let g : f ≡ at + rule_size Own * length (a ++ b) = omega (arith, p.ends, q.ends, length-append a b) in
      let w : e ≡ at + length (joined a) = omega (arith, p.ends, p.long) in
      let z : f ≡ at + length (joined a ++ joined b) = omega (arith, q.ends, q.long, p.ends, p.long, length-append (joined a) (joined b)) in
      record {
        long = l;
        ends = g;
        left =
            puts_put q
            ∙ put_behind m (joined a) (joined b) at (puts_put p) w h
            ∙ rw (cells_append (λ part. part) a b, z);
      }
