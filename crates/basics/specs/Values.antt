-- Values that hold no other value (rules 2.14 and 2.15). Places count from the head's first byte, and what does not fit into the head is bad.
use Rattle.std.specs.Prelude.{Bool, true, cond, ◌&&◌, List, ℕ, ◌+◌, ◌-◌, ◌*◌, ◌/◌, leb, ltb, eqb, length, take, drop, get_or, Option, Some, None}
use Rattle.wire.specs.Bytes.{byte, all_zero}
use Rattle.wire.specs.Words.{word_at}
use Rattle.wire.specs.declared.Order.{Order}
use Rattle.names.specs.Names.{valid_name}
use Rattle.names.specs.declared.Form.TheVariants as form
use Rattle.signature.specs.Signature.{valid_signature}
use Rattle.utf8.specs.Utf8.{valid_utf_8}
use Rattle.types.specs.Letters.{align_of}

-- the least multiple of k, which is 1, 2, 4 or 8, that is not below n
unfoldable pub round_up : ℕ → ℕ → ℕ
round_up k n =
    cond (eqb k 1) n
    (cond (eqb k 2) ((n + 1) / 2 * 2)
    (cond (eqb k 4) ((n + 3) / 4 * 4)
    ((n + 7) / 8 * 8)))

-- past zeros, at the next multiple of k (rule 2.14)
unfoldable pub padded : List ℕ → ℕ → ℕ → Option ℕ
padded h k at = cond (leb (round_up k at) (length h) && all_zero (take (round_up k at - at) (drop at h))) (Some (round_up k at)) None

-- a number of k bytes, at a multiple of k (rule 2.15)
unfoldable pub number_at : List ℕ → ℕ → ℕ → Option ℕ
number_at h k at = elim (padded h k at) [ None ↦ None | Some a ↦ cond (leb k (length h - a)) (Some (a + k)) None ]

-- a boolean is a number of four bytes, 0 or 1 (rule 2.15)
unfoldable pub boolean_at : Order → List ℕ → ℕ → Option ℕ
boolean_at o h at =
    elim (padded h 4 at) [
      | None ↦ None
      | Some a ↦ cond (leb 4 (length h - a) && leb (word_at o h a) 1) (Some (a + 4)) None
    ]

-- a text of n bytes from `from` on, which is good, and the zero behind it (rule 2.15)
unfoldable pub text_in : (List ℕ → Bool) → List ℕ → ℕ → ℕ → Option ℕ
text_in good h from n =
    cond (ltb (from + n) (length h) && eqb (get_or h (from + n) 0) 0 && good (take n (drop from h))) (Some (from + n + 1)) None

-- a string or a path: four bytes of length, at a multiple of 4, in front of the text (rule 2.15)
unfoldable pub text_at : (List ℕ → Bool) → Order → List ℕ → ℕ → Option ℕ
text_at good o h at = elim (padded h 4 at) [ None ↦ None | Some a ↦ text_in good h (a + 4) (word_at o h a) ]

-- a signature: one byte of length in front of the text (rule 2.15)
unfoldable pub short_text_at : (List ℕ → Bool) → List ℕ → ℕ → Option ℕ
short_text_at good h at = text_in good h (at + 1) (get_or h at 0)

-- bytes that no rule is asked of
abbrev pub any_text : List ℕ → Bool
any_text s = true

-- a value of a basic type, by its letter; a number is as long as its alignment (rule 2.15)
unfoldable pub plain_at : Order → List ℕ → ℕ → ℕ → Option ℕ
plain_at o h letter at =
    cond (eqb letter (byte "b")) (boolean_at o h at)
    (cond (eqb letter (byte "s")) (text_at valid_utf_8 o h at)
    (cond (eqb letter (byte "o")) (text_at (valid_name form.Path) o h at)
    (cond (eqb letter (byte "g")) (short_text_at valid_signature h at)
    (number_at h (align_of letter) at))))
