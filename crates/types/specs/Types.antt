-- One complete type, and what stands behind it (rule 4.5).
use Rattle.std.specs.Prelude.{Bool, true, false, ◌&&◌, List, [], ◌∷◌, ℕ, zero, suc, ◌+◌, ◌*◌, leb, eqb, length}
use Rattle.std.proofs.Math.Option.{Option, none, some}
use Rattle.wire.specs.Bytes.{byte}
use Rattle.signature.specs.Signature.{Row, row}
use Rattle.types.specs.Letters.{opens, closes}

-- one type, and nothing behind it
abbrev pub alone : Option Row → Bool
alone none = false
alone (some r) = eqb r.0 1 && eqb (length r.1) 0

-- the signature is exactly one complete type (rule 4.5)
unfoldable pub single : List ℕ → Bool
single s = leb (length s) 255 && alone (row (2 * length s + 1) 0 0 s)

-- what is left behind the type in front, with `depth` brackets open: a letter is a type, an `a` belongs to the type behind it, and a bracket goes on to
-- the one that closes it. Of a complete type this is what the signature rule leaves: each entry of the pass says so (`Nested`, specs/Nest.antt)
unfoldable pub behind : ℕ → List ℕ → List ℕ
behind depth [] = []
behind depth (b ∷ s) =
    elim (closes b) [
      | true ↦ elim depth [ zero ↦ b ∷ s | suc d ↦ elim d [ zero ↦ s | suc e ↦ behind (suc e) s ] ]
      | false ↦
          elim (opens b) [
            | true ↦ behind (suc depth) s
            | false ↦ elim (eqb b (byte "a")) [ true ↦ behind depth s | false ↦ elim depth [ zero ↦ s | suc d ↦ behind (suc d) s ] ]
          ]
    ]
