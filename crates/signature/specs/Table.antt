-- Worked examples of signatures, as a table. T10 and T11 stand in the worked table (rule 13.1).
use Rattle.std.specs.Prelude.{Bool, true, false, List, [], ◌∷◌, ◌++◌, ℕ, replicate}
use Rattle.wire.specs.Bytes.{byte, bytes}

-- a signature, and whether it is good
abbrev pub SignatureRow : Type 0
SignatureRow = List ℕ × Bool

abbrev pub signature_table : List SignatureRow
signature_table =
    (bytes "a{s}", false)
    ∷ (bytes "a{sss}", false)
    ∷ (replicate 32 (byte "(") ++ (bytes "y" ++ replicate 32 (byte ")")), true)
    ∷ (replicate 33 (byte "(") ++ (bytes "y" ++ replicate 33 (byte ")")), false)
    ∷ (replicate 255 (byte "y"), true)
    ∷ (replicate 256 (byte "y"), false)
    ∷ []
