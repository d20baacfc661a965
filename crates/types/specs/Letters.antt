-- The letters of types: what they open and close, and how their values are aligned (rules 2.14, 2.15 and 4.2).
use Rattle.std.specs.Prelude.{Bool, false, cond, ◌||◌, ℕ, eqb}
use Rattle.wire.specs.Bytes.{byte, one_of}
use Rattle.signature.specs.Signature.{basic}

-- a struct or a dict entry begins
abbrev pub opens : ℕ → Bool
opens b = one_of false "({" b

-- a struct or a dict entry ends
abbrev pub closes : ℕ → Bool
closes b = one_of false ")}" b

-- a type by itself (rule 4.2)
abbrev pub letter : ℕ → Bool
letter b = basic b || eqb b (byte "v")

-- a value starts at a multiple of this number (rule 2.14)
unfoldable pub align_of : ℕ → ℕ
align_of b = cond (one_of false "ygv" b) 1 (cond (one_of false "nq" b) 2 (cond (one_of false "xtd({" b) 8 4))

-- how many bytes a number of the letter has, whose bytes may be any; 0 for a letter of other values (rule 2.15)
unfoldable pub width_of : ℕ → ℕ
width_of b = cond (basic b) (cond (one_of false "bsog" b) 0 (align_of b)) 0
