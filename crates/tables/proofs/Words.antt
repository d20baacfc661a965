-- Numbers in parts of bytes, and bytes below 256.
use mathlib.Core.List.{List, ◌++◌}
use mathlib.Core.Path.{◌≡◌, sym, ap, ◌∙◌}
use Prim.Native.Nat.{ℕ, ◌+◌, ◌≤◌, ◌<◌}
use native.Mathlib.Nat.{add-zero}
use lib.ListN.{length, take, drop, take-append-drop}
use Rattle.wire.specs.Bytes.{Below}
use Rattle.wire.specs.Words.{word_at, word_bytes}
use Rattle.wire.specs.declared.Order.TheVariants.{Little}
use Rattle.wire.proofs.Words.{word_drop, word_take as word-taken, word_below, below_take, below_drop, word_bytes_lem}

-- a number is read the same in a part that it stands in
pub word_take : (b : List ℕ) (j i : ℕ) → i + 4 ≤ j → word_at Little (take j b) i ≡ word_at Little b i
word_take b j i h = word-taken Little j b i h

-- a number in the part of w bytes at a
pub word_part : (m : List ℕ) (a w i : ℕ) → i + 4 ≤ w → word_at Little (take w (drop a m)) i ≡ word_at Little m (a + i)
word_part m a w i h = word_take (drop a m) w i h ∙ word_drop Little m a i

pub word_front : (m : List ℕ) (a : ℕ) → word_at Little (drop a m) 0 ≡ word_at Little m a
word_front m a = word_drop Little m a 0 ∙ ap (word_at Little m) (add-zero a)

-- ---- bytes below 256

pub bytes_take : (n : ℕ) (m : List ℕ) → Below 256 m → Below 256 (take n m)
bytes_take n m b = below_take n m b

pub bytes_drop : (n : ℕ) (m : List ℕ) → Below 256 m → Below 256 (drop n m)
bytes_drop n m b = below_drop n m b

-- a number is below 2 ^ 32
pub word_fits : (m : List ℕ) (a : ℕ) → Below 256 m → word_at Little m a < 4294967296
word_fits m a b = word_below Little m a b

-- bytes that begin with a number begin with its bytes
pub word_cut : (b : List ℕ) → 4 ≤ length b → Below 256 b → b ≡ word_bytes (word_at Little b 0) ++ drop 4 b
word_cut b h f = rw (word_bytes_lem b 0 f h) (sym (take-append-drop 4 b))
