-- The table of header fields (rule 2.7).
use Rattle.std.specs.Prelude.{cond, List, [], ◌∷◌, ℕ, eqb}
use Rattle.wire.specs.Bytes.{byte}
use Rattle.names.specs.declared.Form.{Form}
use Rattle.names.specs.declared.Form.TheVariants.{Interface, BusName, Member, Path}

-- what a field's value must be: a name of a form, a serial, a signature, or anything (rule 2.7)
pub data Rule : Type 0 where
  name : Form → Rule
  serial : Rule
  signature : Rule
  any_value : Rule

-- the types of message (rule 2.2)
abbrev pub call : ℕ
call = 1

abbrev pub return : ℕ
return = 2

abbrev pub error : ℕ
error = 3

abbrev pub signal : ℕ
signal = 4

-- the codes of the fields (rule 2.7)
abbrev pub path_code : ℕ
path_code = 1

abbrev pub interface_code : ℕ
interface_code = 2

abbrev pub member_code : ℕ
member_code = 3

abbrev pub error_name_code : ℕ
error_name_code = 4

abbrev pub reply_serial_code : ℕ
reply_serial_code = 5

abbrev pub destination_code : ℕ
destination_code = 6

abbrev pub sender_code : ℕ
sender_code = 7

abbrev pub signature_code : ℕ
signature_code = 8

abbrev pub descriptors_code : ℕ
descriptors_code = 9

-- every known field's code is below this number, and 0 is no field's; from here on fields are unknown (rule 2.13)
abbrev pub code_limit : ℕ
code_limit = 10

-- a header field: its code, the letter of its type, the rule of its value, and the types of message that require it (rule 2.7)
pub record Field : Type 0 where
  pub code : ℕ
  pub letter : ℕ
  pub rule : Rule
  pub required : List ℕ

-- the nine fields (rule 2.7)
abbrev pub field_table : List Field
field_table =
    record { code = path_code; letter = byte "o"; rule = name Path; required = call ∷ signal ∷ [] }
    ∷ record { code = interface_code; letter = byte "s"; rule = name Interface; required = signal ∷ [] }
    ∷ record { code = member_code; letter = byte "s"; rule = name Member; required = call ∷ signal ∷ [] }
    ∷ record { code = error_name_code; letter = byte "s"; rule = name Interface; required = error ∷ [] }
    ∷ record { code = reply_serial_code; letter = byte "u"; rule = serial; required = return ∷ error ∷ [] }
    ∷ record { code = destination_code; letter = byte "s"; rule = name BusName; required = [] }
    ∷ record { code = sender_code; letter = byte "s"; rule = name BusName; required = [] }
    ∷ record { code = signature_code; letter = byte "g"; rule = signature; required = [] }
    ∷ record { code = descriptors_code; letter = byte "u"; rule = any_value; required = [] }
    ∷ []

abbrev pub letter_in : List Field → ℕ → ℕ
letter_in [] code = 0
letter_in (f ∷ fs) code = cond (eqb code f.code) f.letter (letter_in fs code)

abbrev pub rule_in : List Field → ℕ → Rule
rule_in [] code = any_value
rule_in (f ∷ fs) code = cond (eqb code f.code) f.rule (rule_in fs code)

-- the letter of a code, 0 where no field has the code (rule 2.7)
unfoldable pub letter_of : ℕ → ℕ
letter_of code = letter_in field_table code

abbrev pub rule_of : ℕ → Rule
rule_of code = rule_in field_table code
