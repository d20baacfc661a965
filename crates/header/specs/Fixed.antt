-- The fixed part of a head, bytes 0 to 15 (rules 2.1, 2.2 and 2.3), and its answers 1 to 6 (rule 2.4).
use Rattle.std.specs.Prelude.{Bool, cond, not, ◌||◌, List, ℕ, ◌+◌, ltb, eqb, get_or, Result, Ok, Err}
use Rattle.wire.specs.Bytes.{byte}
use Rattle.wire.specs.Words.{word_at, round_up_8}
use Rattle.wire.specs.declared.Order.{Order}
use Rattle.wire.specs.declared.Order.TheVariants.{Little, Big}
use Rattle.header.specs.declared.Sizes.{Sizes}
use Rattle.header.specs.declared.Fault.{Fault}
use Rattle.header.specs.declared.Fault.TheVariants as fault
use Rattle.header.specs.Faults.{fault_number}

-- the order that byte 0 names (rule 2.1); where it names none, `fixed_part` has answered 1 before a number is read
unfoldable pub order_of : List ℕ → Order
order_of s = cond (eqb (get_or s 0 0) (byte "B")) Big Little

abbrev pub is_order : ℕ → Bool
is_order b = eqb b (byte "l") || eqb b (byte "B")

-- ---- the parts, and where they stand: four bytes and three words (rule 2.2)

abbrev pub kind_byte : ℕ
kind_byte = 1

abbrev pub flags_byte : ℕ
flags_byte = 2

abbrev pub version_byte : ℕ
version_byte = 3

abbrev pub body_word : ℕ
body_word = 4

abbrev pub serial_word : ℕ
serial_word = body_word + 4

abbrev pub array_word : ℕ
array_word = serial_word + 4

-- behind it begins the array of fields
abbrev pub fixed_length : ℕ
fixed_length = array_word + 4

abbrev pub kind_of : List ℕ → ℕ
kind_of s = get_or s kind_byte 0

abbrev pub flags_of : List ℕ → ℕ
flags_of s = get_or s flags_byte 0

abbrev pub version_of : List ℕ → ℕ
version_of s = get_or s version_byte 0

abbrev pub body_length : List ℕ → ℕ
body_length s = word_at (order_of s) s body_word

abbrev pub serial_of : List ℕ → ℕ
serial_of s = word_at (order_of s) s serial_word

abbrev pub array_length : List ℕ → ℕ
array_length s = word_at (order_of s) s array_word

-- ---- lengths

-- how long an array, and with it a head, and how long a message may be (rule 2.4)
abbrev pub array_limit : ℕ
array_limit = 2032

abbrev pub head_limit : ℕ
head_limit = fixed_length + array_limit

abbrev pub message_limit : ℕ
message_limit = 134217728

-- the head has its padding, and the message its body (rule 2.3)
unfoldable pub head_length : List ℕ → ℕ
head_length s = fixed_length + round_up_8 (array_length s)

unfoldable pub message_length : List ℕ → ℕ
message_length s = head_length s + body_length s

-- ---- answers

-- a fault, or the lengths of the head and of the message
abbrev pub Fixed : Type 0
Fixed = Result Sizes Fault

abbrev pub measures : ℕ → ℕ → Fixed
measures head message = Ok (record { head = head; message = message })

-- 4 to 6: the numbers (rule 2.4)
unfoldable pub sizes_of : List ℕ → Fixed
sizes_of s =
    cond (eqb (serial_of s) 0) (Err fault.Serial)
    (cond (ltb array_limit (array_length s)) (Err fault.ArrayLength)
    (cond (ltb message_limit (message_length s)) (Err fault.MessageLength) (measures (head_length s) (message_length s))))

-- once 16 bytes have come, tested in this order (rule 2.4)
unfoldable pub fixed_part : List ℕ → Fixed
fixed_part s =
    cond (not (is_order (get_or s 0 0))) (Err fault.ByteOrder)
    (cond (not (eqb (version_of s) 1)) (Err fault.Version)
    (cond (eqb (kind_of s) 0) (Err fault.MessageType) (sizes_of s)))

-- the answer number of each case: 0 says that the fixed part has none of 1 to 6 (rule 2.4)
abbrev pub fixed_answer : Fixed → ℕ
fixed_answer (Err f) = fault_number f
fixed_answer (Ok sizes) = 0
