-- Whether a call ends, as the code reads it in its table.
use mathlib.Core.List.{List}
use mathlib.Core.Path.{◌≡◌}
use Prim.Native.Nat.{ℕ, ◌+◌, ◌-◌}
use native.Mathlib.Omega.{arith}
use native.Mathlib.Nat.{add-zero}
use lib.Dec.{eqb, leb}
use lib.ListN.{take, drop}
use borrow.Author.Rules.{rules}
use Rattle.wire.specs.Words.{word_at, long_at}
use Rattle.wire.specs.declared.Order.TheVariants.{Little}
use Rattle.wire.proofs.Longs.{long_part}
use Rattle.tables.proofs.Words.{word_part}
use Rattle.memory.specs.Layout.{call_width, tick_offset}
use Rattle.memory.specs.Encoding.{pending_of}
use Rattle.endings.specs.declared.Ending.{Ending}
use Rattle.endings.specs.declared.Ending.TheVariants.{To, Aged}
use Rattle.endings.specs.Endings.{test_of}

module _ (b : List ℕ) (at : ℕ) where
  pub to_ends : {w : Ending} {c n : ℕ} → w ≡ To c → n ≡ word_at Little b at → eqb n c ≡ test_of w (pending_of (take call_width (drop at b)))
  to_ends q e = rw (q, word_part b at call_width 0 (omega arith), add-zero, e)

  pub aged_ends : {w : Ending} {present limit n a : ℕ} → w ≡ Aged present limit → n ≡ long_at b (at + tick_offset) → a ≡ present - n
      → leb limit a ≡ test_of w (pending_of (take call_width (drop at b)))
  aged_ends q e f = rw (q, long_part b at call_width tick_offset (omega arith), f, e)

pub ruleset call_ends = (to_ends, aged_ends, rules)
