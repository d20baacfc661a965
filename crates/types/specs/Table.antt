-- Worked examples of what is exactly one complete type, as a table.
use Rattle.std.specs.Prelude.{Bool, true, false, List, [], ◌∷◌, ◌++◌, ℕ, replicate}
use Rattle.wire.specs.Bytes.{byte, bytes}

-- a signature, and whether it is one complete type
abbrev pub TypeRow : Type 0
TypeRow = List ℕ × Bool

-- a `y` in so many parentheses
abbrev pub in_parens : ℕ → List ℕ
in_parens n = replicate n (byte "(") ++ (bytes "y" ++ replicate n (byte ")"))

abbrev pub type_table : List TypeRow
type_table =
    (bytes "", false)
    ∷ (bytes "y", true)
    ∷ (bytes "v", true)
    ∷ (bytes "yy", false)
    ∷ (bytes "ay", true)
    ∷ (bytes "a", false)
    ∷ (bytes "(y)", true)
    ∷ (bytes "()", false)
    ∷ (bytes "a(y)y", false)
    ∷ (bytes "a{sv}", true)
    ∷ (bytes "{sv}", false)
    ∷ (bytes "({yy})", false)
    ∷ (bytes "a{vs}", false)
    ∷ (replicate 32 (byte "a") ++ bytes "y", true)
    ∷ (replicate 33 (byte "a") ++ bytes "y", false)
    ∷ (in_parens 32, true)
    ∷ (in_parens 33, false)
    ∷ (bytes "(" ++ (replicate 253 (byte "y") ++ bytes ")"), true)
    ∷ (bytes "(" ++ (replicate 254 (byte "y") ++ bytes ")"), false)
    ∷ []
