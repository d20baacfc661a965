-- The array of header fields and its answer 7 (rules 2.5, 2.6, 2.8 and 2.13).
use Rattle.std.specs.Prelude.{Bool, true, false, cond, not, ◌&&◌, List, ℕ, zero, suc, ◌+◌, ◌-◌, leb, ltb, eqb, take, drop, get_or, set, replicate, Option, Some, None}
use Rattle.wire.specs.Bytes.{byte, all_zero}
use Rattle.wire.specs.Words.{word_at, round_up_8}
use Rattle.wire.specs.declared.Order.{Order}
use Rattle.variant.specs.Walk.{skipped}
use Rattle.header.specs.declared.Place.{Place}
use Rattle.header.specs.declared.Element.{Element}
use Rattle.header.specs.declared.Element.TheVariants.{At, Skip}
use Rattle.header.specs.Fixed.{fixed_length, order_of, array_length}
use Rattle.header.specs.Codes.{code_limit, letter_of}

-- ---- places

abbrev pub absent : Place
absent = record { at = 0; len = 0 }

-- no value can start at byte 0, so a place there says that the field is absent (rule 2.12)
abbrev pub present : Place → Bool
present p = not (eqb p.at 0)

-- the bytes of a value
abbrev pub text_at : List ℕ → Place → List ℕ
text_at h p = take p.len (drop p.at h)

-- where the value of each code stands; code 0 is no field's
abbrev pub Fields : Type 0
Fields = List Place

abbrev pub place_of : Fields → ℕ → Place
place_of fs code = get_or fs code absent

abbrev pub no_fields : Fields
no_fields = replicate code_limit absent

-- ---- one element, in an array that ends at `end`

-- a text of `len` bytes from `at` on, and the zero behind it (rules 2.6 and 2.8)
unfoldable pub text_in : List ℕ → ℕ → ℕ → ℕ → ℕ → Option Element
text_in h end code at len = cond (ltb (at + len) end && eqb (get_or h (at + len) 0) 0) (Some (At code at len (at + len + 1))) None

-- the value at `at`: only a signature has its length in one byte (rule 2.6)
unfoldable pub value_at : Order → List ℕ → ℕ → ℕ → ℕ → ℕ → Option Element
value_at o h end code letter at =
    cond (eqb letter (byte "g")) (text_in h end code (at + 1) (get_or h at 0))
    (cond (eqb letter (byte "u")) (cond (leb (at + 4) end) (Some (At code at 4 (at + 4))) None) (text_in h end code (at + 4) (word_at o h at)))

-- the four bytes in front of a value: a code of the table with its letter (rule 2.5)
unfoldable pub framed : List ℕ → ℕ → Bool
framed h at =
    not (eqb (letter_of (get_or h at 0)) 0)
    && eqb (get_or h (at + 1) 0) 1
    && eqb (get_or h (at + 2) 0) (letter_of (get_or h at 0))
    && eqb (get_or h (at + 3) 0) 0

-- a known field, whose code stands at `at` (rule 2.5); 0 is no field's code, and has no letter to be framed with (rule 2.8)
unfoldable pub known_at : Order → List ℕ → ℕ → ℕ → Option Element
known_at o h end at = cond (framed h at) (value_at o h end (get_or h at 0) (letter_of (get_or h at 0)) (at + 4)) None

-- an unknown field, whose code stands at `at`: behind it comes a variant, which is walked by its signature and passed over (rule 2.13)
unfoldable pub unknown_at : Order → List ℕ → ℕ → ℕ → Option Element
unknown_at o h end at = elim (skipped o h (at + 1) end) [ None ↦ None | Some to ↦ Some (Skip to) ]

-- a field by its code: from the limit on it is unknown (rules 2.5 and 2.13)
abbrev pub by_code : Order → List ℕ → ℕ → ℕ → Option Element
by_code o h end at = cond (ltb (get_or h at 0) code_limit) (known_at o h end at) (unknown_at o h end at)

-- the element behind the padding that starts at `from`, which is zero (rules 2.5 and 2.8)
unfoldable pub element_at : Order → List ℕ → ℕ → ℕ → Option Element
element_at o h end from = cond (all_zero (take (round_up_8 from - from) (drop from h))) (by_code o h end (round_up_8 from)) None

-- ---- all elements

-- the fields of the elements from `from` on, beside those of `fs`: the last one ends at `end`, and no code is repeated (rule 2.8) but those of
-- unknown fields, which leave `fs` as it is (rule 2.13)
unfoldable pub walk : ℕ → Order → List ℕ → ℕ → ℕ → Fields → Option Fields
walk zero o h end from fs = None
walk (suc fuel) o h end from fs =
    elim (eqb from end) [
      | true ↦ Some fs
      | false ↦
          elim (element_at o h end from) [
            | None ↦ None
            | Some (Skip stop) ↦ walk fuel o h end stop fs
            | Some (At code at len stop) ↦
                elim (present (place_of fs code)) [
                  | true ↦ None
                  | false ↦ walk fuel o h end stop (set fs code (record { at = at; len = len }))
                ]
          ]
    ]

-- the fields of the array that ends at `end`. An element has more than one byte, so a fuel of one more than the array's length is enough
abbrev pub fields_in : Order → List ℕ → ℕ → Option Fields
fields_in o h end = walk (end - fixed_length + 1) o h end fixed_length no_fields

-- the fields of the head h, or none where the array is malformed; what stands behind the array is padding (rule 2.8)
unfoldable pub fields_of : List ℕ → Option Fields
fields_of h =
    cond (all_zero (drop (fixed_length + array_length h) h)) (fields_in (order_of h) h (fixed_length + array_length h)) None
