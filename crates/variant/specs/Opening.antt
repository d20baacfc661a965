-- How a value begins: it is done, or it opens an array, a row of values or a variant (rules 2.16 and 2.17). Places count from the head's first byte,
-- and what does not fit into the head is bad.
use Rattle.std.specs.Prelude.{cond, List, [], ◌∷◌, ℕ, ◌+◌, ◌-◌, leb, eqb, length, Option, Some, None}
use Rattle.wire.specs.Bytes.{byte, front}
use Rattle.wire.specs.Words.{word_at}
use Rattle.wire.specs.declared.Order.{Order}
use Rattle.signature.specs.Signature.{basic}
use Rattle.types.specs.Letters.{opens, align_of}
use Rattle.basics.specs.Values.{padded, any_text, short_text_at, plain_at}
use Rattle.variant.specs.declared.Begin.{Begin}
use Rattle.variant.specs.declared.Begin.TheVariants as begin

-- how many arrays, parentheses, braces and variants may be open at once (rule 2.17)
abbrev pub open_limit : ℕ
open_limit = 64

unfoldable pub done_at : Option ℕ → Option Begin
done_at (Some s) = Some (begin.Done s)
done_at None = None

-- an array whose length stands at a: padding to a multiple of k, though there be no element, and then as many bytes as the length says (rule 2.16)
unfoldable pub array_in : Order → List ℕ → ℕ → ℕ → Option Begin
array_in o h k a =
    elim (padded h k (a + 4)) [
      | None ↦ None
      | Some start ↦ cond (leb (word_at o h a) (length h - start)) (Some (begin.Array start (start + word_at o h a))) None
    ]

unfoldable pub array_at : Order → List ℕ → ℕ → ℕ → Option Begin
array_at o h k at = elim (padded h 4 at) [ None ↦ None | Some a ↦ array_in o h k a ]

-- a struct or a dict entry (rule 2.16)
unfoldable pub row_at : List ℕ → ℕ → Option Begin
row_at h at = elim (padded h 8 at) [ None ↦ None | Some start ↦ Some (begin.Row start) ]

-- a variant: its signature behind the byte of its length, and the zero behind that (rule 2.16)
unfoldable pub variant_at : List ℕ → ℕ → Option Begin
variant_at h at = elim (short_text_at any_text h at) [ None ↦ None | Some s ↦ Some (begin.Variant (at + 1) s) ]

-- what the letter opens; behind an `a` stands the element's letter
unfoldable pub opening_at : Order → List ℕ → ℕ → ℕ → ℕ → Option Begin
opening_at o h letter element at =
    cond (eqb letter (byte "a")) (array_at o h (align_of element) at)
    (cond (opens letter) (row_at h at)
    (cond (eqb letter (byte "v")) (variant_at h at) None))

-- how the value of the type in front of s begins, with so many things open (rule 2.17)
unfoldable pub begin_of : Order → List ℕ → ℕ → List ℕ → ℕ → Option Begin
begin_of o h depth [] at = None
begin_of o h depth (b ∷ s) at =
    cond (basic b) (done_at (plain_at o h b at)) (cond (leb open_limit depth) None (opening_at o h b (front s) at))
