-- A head as a whole: for any bytes, what a reader of them answers (rules 2.11 and 2.12).
use Rattle.std.specs.Prelude.{cond, not, List, ℕ, ltb, length, take, Option, Some, None, Result, Ok, Err}
use Rattle.header.specs.declared.Header.{Header}
use Rattle.header.specs.declared.Fault.TheVariants as fault
use Rattle.header.specs.declared.Unread.{Unread}
use Rattle.header.specs.declared.Unread.TheVariants.{Short, Broken}
use Rattle.header.specs.Faults.{fault_number}
use Rattle.header.specs.Fixed.{Fixed, fixed_length, order_of, kind_of, flags_of, body_length, serial_of, head_length, fixed_part}
use Rattle.header.specs.Codes.{path_code, interface_code, member_code, error_name_code, reply_serial_code, destination_code}
use Rattle.header.specs.Fields.{Fields, place_of, text_at, fields_of}
use Rattle.header.specs.Values.{number_in, good_values}
use Rattle.header.specs.Required.{has_required}

-- what bytes begin with: a whole head, or why there is none
abbrev pub Reading : Type 0
Reading = Result Header Unread

-- the header of the head h with the fields fs; the sender is not among them (rule 2.12)
unfoldable pub header_of : List ℕ → Fields → Header
header_of h fs =
    record {
      kind = kind_of h;
      flags = flags_of h;
      serial = serial_of h;
      body = body_length h;
      head = head_length h;
      reply_serial = number_in (order_of h) (text_at h (place_of fs reply_serial_code));
      path = place_of fs path_code;
      interface = place_of fs interface_code;
      member = place_of fs member_code;
      error_name = place_of fs error_name_code;
      destination = place_of fs destination_code;
    }

-- 8, then 9 (rules 2.9, 2.10 and 2.11)
unfoldable pub judged_head : List ℕ → Fields → Reading
judged_head h fs = cond (not (good_values (order_of h) h fs)) (Err (Broken fault.Values)) (cond (not (has_required (kind_of h) fs)) (Err (Broken fault.RequiredFields)) (Ok (header_of h fs)))

abbrev pub or_seven : List ℕ → Option Fields → Reading
or_seven h None = Err (Broken fault.Fields)
or_seven h (Some fs) = judged_head h fs

-- 7 before both, over exactly the bytes of the head (rule 2.11)
unfoldable pub read_head : List ℕ → Reading
read_head h = or_seven h (fields_of h)

-- the head in front of s, where s is long enough: 7 to 9 wait for its last byte (rule 2.11)
abbrev pub after_fixed : List ℕ → Fixed → Reading
after_fixed s (Err f) = Err (Broken f)
after_fixed s (Ok sizes) = cond (ltb (length s) sizes.head) (Err Short) (read_head (take sizes.head s))

unfoldable pub read_header : List ℕ → Reading
read_header s = cond (ltb (length s) fixed_length) (Err Short) (after_fixed s (fixed_part s))

-- the answer number of each case: 10 says that more bytes are needed, and 0 that the head has none of the faults (rules 2.4 and 2.11)
abbrev pub reading_answer : Reading → ℕ
reading_answer (Err Short) = 10
reading_answer (Err (Broken f)) = fault_number f
reading_answer (Ok header) = 0
