-- The values of the fields and their answer 8 (rule 2.9).
use Rattle.std.specs.Prelude.{Bool, true, cond, not, ◌||◌, List, ℕ, ltb, eqb, length}
use Rattle.wire.specs.Lists.{below}
use Rattle.wire.specs.Words.{word_at}
use Rattle.wire.specs.declared.Order.{Order}
use Rattle.names.specs.Names.{valid_name}
use Rattle.signature.specs.Signature.{valid_signature}
use Rattle.header.specs.declared.Place.{Place}
use Rattle.header.specs.Codes.{Rule, name, serial, signature, any_value, code_limit, rule_of}
use Rattle.header.specs.Fields.{Fields, place_of, present, text_at}

-- the number in the four bytes of a value; 0 where a value has fewer, as an absent one (rule 2.12)
unfoldable pub number_in : Order → List ℕ → ℕ
number_in o t = cond (ltb (length t) 4) 0 (word_at o t 0)

-- a value obeys a rule (rule 2.9)
abbrev pub obeys : Order → Rule → List ℕ → Bool
obeys o (name form) t = valid_name form t
obeys o serial t = not (eqb (number_in o t) 0)
obeys o signature t = valid_signature t
obeys o any_value t = true

unfoldable pub good_value : Order → ℕ → List ℕ → Bool
good_value o code t = obeys o (rule_of code) t

-- a field that is present obeys the rule of its code, whatever the type of the message (rule 2.9)
unfoldable pub good_field : Order → List ℕ → Place → ℕ → Bool
good_field o h p code = not (present p) || good_value o code (text_at h p)

unfoldable pub good_values : Order → List ℕ → Fields → Bool
good_values o h fs = below (λ code. good_field o h (place_of fs code) code) code_limit
