-- The signature rule (rules 4.1, 4.2, 4.3 and 4.4).
use Rattle.std.specs.Prelude.{Bool, true, false, cond, ◌&&◌, ◌||◌, List, [], ◌∷◌, ℕ, zero, suc, ◌+◌, ◌*◌, leb, ltb, eqb, length, drop, Option as Maybe, Some, None}
use Rattle.std.proofs.Math.Option.{Option, none, some}
use Rattle.wire.specs.Bytes.{byte, one_of, front}
use Rattle.signature.specs.declared.FirstCode.{FirstCode}
use Rattle.signature.specs.declared.FirstCode.TheVariants.{Plain, Array, Dict, Paren}

-- what a dict entry may have for its key (rule 4.3)
abbrev pub basic : ℕ → Bool
basic b = one_of false "ybnqiuxtdsogh" b

-- how a type begins, with so many arrays and parentheses open (rules 4.2 and 4.4): a basic letter or `v`; a `(`; an `a`, which may start a dict
-- entry with or without a basic key (rule 4.3)
unfoldable pub head_of : ℕ → ℕ → List ℕ → Maybe FirstCode
head_of arrays parens [] = None
head_of arrays parens (b ∷ s) =
    cond (basic b || eqb b (byte "v")) (Some Plain)
    (cond (eqb b (byte "(") && ltb parens 32) (Some Paren)
    (cond (eqb b (byte "a") && ltb arrays 32) (cond (eqb (front s) (byte "{")) (Some (Dict (basic (front (drop 1 s))))) (Some Array)) None))

-- what is left after the byte `by`, where it stands in front and all is `well`
unfoldable pub closed_by : ℕ → Bool → List ℕ → Option (List ℕ)
closed_by by well [] = none
closed_by by well (b ∷ s) = cond (well && eqb b by) (some s) none

-- types in a row: how many, and what is left
abbrev pub Row : Type 0
Row = ℕ × List ℕ

-- `(` row `)`, of one type or more (rule 4.2)
abbrev pub tuple : Option Row → Option (List ℕ)
tuple none = none
tuple (some r) = closed_by (byte ")") (leb 1 r.0) r.1

-- `{` row `}`, of two types, where the first is `key`, a basic one (rule 4.3)
abbrev pub dict_entry : Bool → Option Row → Option (List ℕ)
dict_entry key none = none
dict_entry key (some r) = closed_by (byte "}") (key && eqb r.0 2) r.1

abbrev pub one_more : Option Row → Option Row
one_more none = none
one_more (some r) = some (r.0 + 1, r.1)

abbrev pub is_whole_row : Option Row → Bool
is_whole_row none = false
is_whole_row (some r) = eqb (length r.1) 0

unfoldable mutual
  -- what is left after the one type in front of s, with so many arrays and parentheses open (rules 4.2 and 4.4); a dict entry opens no parenthesis.
  -- The calls go at most `fuel` deep: two a byte is enough
  pub one : ℕ → ℕ → ℕ → List ℕ → Option (List ℕ)
  one zero arrays parens s = none
  one (suc fuel) arrays parens s =
      elim (head_of arrays parens s) [
        | None ↦ none
        | Some first ↦
            elim first [
              | Plain ↦ some (drop 1 s)
              | Array ↦ one fuel (arrays + 1) parens (drop 1 s)
              | Dict key ↦ dict_entry key (row fuel (arrays + 1) parens (drop 2 s))
              | Paren ↦ tuple (row fuel arrays (parens + 1) (drop 1 s))
            ]
      ]

  -- the types in a row in front of s, up to a `)`, a `}` or the end (rule 4.1)
  pub row : ℕ → ℕ → ℕ → List ℕ → Option Row
  row zero arrays parens s = none
  row (suc fuel) arrays parens [] = some (0, [])
  row (suc fuel) arrays parens (b ∷ s) =
      elim (one_of false ")}" b) [
        | true ↦ some (0, b ∷ s)
        | false ↦ elim (one fuel arrays parens (b ∷ s)) [ none ↦ none | some r ↦ one_more (row fuel arrays parens r) ]
      ]

-- a row of no types is a signature too (rule 4.1)
unfoldable pub valid_signature : List ℕ → Bool
valid_signature s = leb (length s) 255 && is_whole_row (row (2 * length s + 1) 0 0 s)
