-- The fields that a type of message requires, and their answer 9 (rule 2.10).
use Rattle.std.specs.Prelude.{Bool, not, ◌||◌, ℕ, eqb}
use Rattle.wire.specs.Lists.{every, any}
use Rattle.header.specs.Codes.{Field, field_table}
use Rattle.header.specs.Fields.{Fields, place_of, present}

-- each field is not required in the type, or is present; types 5 and up require none (rule 2.10)
unfoldable pub has_required : ℕ → Fields → Bool
has_required kind fs = every (λ (f : Field). not (any (eqb kind) f.required) || present (place_of fs f.code)) field_table
