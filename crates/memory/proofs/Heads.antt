-- A head in bytes is a table of single bytes, so that the laws of tables are its laws too.
use mathlib.Core.List.{List, [], ◌∷◌, map}
use mathlib.Core.Path.{◌≡◌, refl, sym, ap}
use Prim.Native.Nat.{ℕ, zero, suc, ◌≤◌, min}
use native.Mathlib.Omega.{arith}
use lib.ListN.{length, take, drop, length-drop}
use Rattle.wire.specs.Bytes.{Below, front}
use Rattle.wire.specs.Words.{word_at}
use Rattle.wire.specs.declared.Order.TheVariants.{Little}
use Rattle.tables.specs.Tables.{cells, parts, table_bytes, table_of}
use Rattle.memory.specs.Layout.{head_room, kept_length}
use Rattle.memory.specs.Encoding.{head_bytes}

abbrev pub single : ℕ → List ℕ
single x = x ∷ []

pub single_length : (x : ℕ) → length (single x) ≡ 1
single_length x = refl

cells_single : (h : List ℕ) → cells single h ≡ h
unfolding cells
cells_single [] = refl
cells_single (x ∷ h) = ap (λ (z : List ℕ). x ∷ z) (cells_single h)

pub head_table_lem : (h : List ℕ) → head_bytes h ≡ table_bytes 1 head_room single h
unfolding head_bytes table_bytes
head_table_lem h = rw (cells_single h)

fronts : (n : ℕ) (d : List ℕ) → n ≤ length d → map front (parts 1 n d) ≡ take n d
unfolding parts
fronts zero d h = refl
fronts (suc n) [] h = absurd (omega arith)
fronts (suc n) (x ∷ d) h = ap (λ (z : List ℕ). x ∷ z) (fronts n d (omega arith))

-- what the bytes of a head say
pub head_of : (d : List ℕ) → kept_length ≤ length d → take (min (word_at Little d 0) head_room) (drop 4 d) ≡ table_of 1 head_room front d
unfolding table_of
head_of d h = sym (fronts (min (word_at Little d 0) head_room) (drop 4 d) (omega (arith, length-drop 4 d)))

pub single_plain : (b : List ℕ) → length b ≡ 1 → Below 256 b → single (front b) ≡ b
single_plain [] l f = absurd (omega arith)
single_plain (x ∷ []) l f = refl
single_plain (x ∷ y ∷ b) l f = absurd (omega arith)
