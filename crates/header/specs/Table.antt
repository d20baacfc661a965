-- Worked examples of heads, T5 to T7 among them, as a table: bytes, and the number of what a reader answers.
-- 10 says that the head has not come whole, 0 that it has none of the faults.
use Rattle.std.specs.Prelude.{List, [], ◌∷◌, ◌++◌, reverse, ℕ, zero, suc, length, take, drop, set, replicate}
use Prim.Native.Char.{Char}
use Prim.Native.String.{String}
use Rattle.wire.specs.Bytes.{byte, bytes}
use Rattle.wire.specs.Words.{word_bytes}
use Rattle.wire.specs.declared.Order.{Order}
use Rattle.wire.specs.declared.Order.TheVariants.{Little, Big}
use Rattle.header.specs.Fixed.{fixed_part, fixed_answer}
use Rattle.header.specs.Codes.{call, return, error, signal}
use Rattle.header.specs.Header.{read_header, reading_answer}

abbrev pub HeadRow : Type 0
HeadRow = List ℕ × ℕ

abbrev mark : Order → ℕ
mark Little = byte "l"
mark Big = byte "B"

abbrev number : Order → ℕ → List ℕ
number Little n = word_bytes n
number Big n = reverse (word_bytes n)

-- the first 16 bytes: type, version, body length, serial, array length
abbrev fixed_bytes : Order → ℕ → ℕ → ℕ → ℕ → ℕ → List ℕ
fixed_bytes o kind version body serial array = mark o ∷ kind ∷ 0 ∷ version ∷ (number o body ++ (number o serial ++ number o array))

-- the call C, in either order: path `/` at byte 24, member `M` at byte 40
abbrev pub call_cIn : Order → List ℕ
call_cIn o =
    fixed_bytes o 1 1 0 1 26
    ++ ((1 ∷ 1 ∷ byte "o" ∷ 0 ∷ number o 1)
    ++ ((byte "/" ∷ 0 ∷ 0 ∷ 0 ∷ 0 ∷ 0 ∷ 0 ∷ 0 ∷ [])
    ++ ((3 ∷ 1 ∷ byte "s" ∷ 0 ∷ number o 1) ++ (byte "M" ∷ 0 ∷ 0 ∷ 0 ∷ 0 ∷ 0 ∷ 0 ∷ 0 ∷ []))))

-- the same with another length of the array
abbrev array_c : Order → ℕ → List ℕ
array_c o n = fixed_bytes o 1 1 0 1 n ++ drop 16 (call_cIn o)

-- a message of a type with these fields
abbrev message : Order → ℕ → List ℕ → List ℕ
message o kind fields = fixed_bytes o kind 1 0 1 (length fields) ++ fields

-- a field whose text has 7 bytes, so that no padding follows
abbrev text : Order → ℕ → Char → String → List ℕ
text o code letter s = code ∷ 1 ∷ byte letter ∷ 0 ∷ (number o 7 ++ (bytes s ++ (0 ∷ [])))

abbrev path : Order → List ℕ
path o = text o 1 "o" "/foo/ba"

abbrev interface : Order → List ℕ
interface o = text o 2 "s" "org.foo"

abbrev member : Order → List ℕ
member o = text o 3 "s" "GetItem"

abbrev error_name : Order → List ℕ
error_name o = text o 4 "s" "org.bad"

abbrev reply_serial : Order → ℕ → List ℕ
reply_serial o n = 5 ∷ 1 ∷ byte "u" ∷ 0 ∷ number o n

-- faults of the fixed part, and heads that have not come whole
abbrev fixed_lines : Order → List HeadRow
fixed_lines o =
    (take 15 (call_cIn o), 10)
    ∷ (take 15 (set (call_cIn o) 0 (byte "L")), 10)  -- 1 is not found before byte 16
    ∷ (take 47 (call_cIn o), 10)
    ∷ (take 47 (set (call_cIn o) 31 1), 10)  -- nor 7 before the head's last byte
    ∷ (set (call_cIn o) 0 (byte "L"), 1)  -- T5: byte 0 as 4c
    ∷ (fixed_bytes o 0 2 0 0 0, 2)  -- 2 before 3 and 4
    ∷ (fixed_bytes o 0 1 0 0 0, 3)
    ∷ (fixed_bytes o 1 1 0 0 2033, 4)
    ∷ (fixed_bytes o 1 1 0 1 2032, 10)  -- T6
    ∷ (fixed_bytes o 1 1 0 1 2033, 5)
    ∷ (fixed_bytes o 5 1 134217712 1 0, 0)  -- T7
    ∷ (fixed_bytes o 5 1 134217713 1 0, 6)
    ∷ []

-- faults of the array and of values
abbrev array_lines : Order → List HeadRow
array_lines o =
    (set (call_cIn o) 31 1, 7)  -- padding
    ∷ (set (call_cIn o) 47 1, 7)  -- padding behind the array
    ∷ (set (set (call_cIn o) 32 1) 34 (byte "o"), 7)  -- a repeated code
    ∷ (set (call_cIn o) 32 0, 7)  -- code 0
    ∷ (set (call_cIn o) 33 2, 7)  -- the length of a signature
    ∷ (set (call_cIn o) 34 (byte "o"), 7)  -- another letter
    ∷ (set (call_cIn o) 35 1, 7)  -- no zero behind the letter
    ∷ (set (call_cIn o) 41 1, 7)  -- no zero behind the value
    ∷ (array_c o 25, 7)  -- a field that runs past the array
    ∷ (array_c o 27, 7)  -- an array that ends in padding
    ∷ (set (set (call_cIn o) 40 (byte ".")) 47 1, 7)  -- 7 before 8
    ∷ (set (call_cIn o) 40 (byte "."), 8)
    ∷ (set (set (call_cIn o) 1 4) 40 (byte "."), 8)  -- 8 before 9
    ∷ (message o return (reply_serial o 0), 8)
    ∷ []

-- each field that a type requires, absent alone
abbrev required_lines : Order → List HeadRow
required_lines o =
    (message o return [], 9)
    ∷ (message o call (member o), 9)
    ∷ (message o call (path o), 9)
    ∷ (message o error (reply_serial o 7), 9)
    ∷ (message o error (error_name o), 9)
    ∷ (message o signal (interface o ++ member o), 9)
    ∷ (message o signal (path o ++ member o), 9)
    ∷ (message o signal (path o ++ interface o), 9)
    ∷ []

-- heads without a fault
abbrev good_lines : Order → List HeadRow
good_lines o =
    (message o 5 [], 0)  -- types 5 and up require none
    ∷ (call_cIn o, 0)
    ∷ (call_cIn o ++ bytes "body", 0)  -- bytes behind the head do not matter
    ∷ (message o return (reply_serial o 7), 0)
    ∷ (message o call (path o ++ member o), 0)
    ∷ (message o error (error_name o ++ reply_serial o 7), 0)
    ∷ (message o signal (path o ++ (interface o ++ member o)), 0)
    ∷ []

-- ---- unknown fields (rule 2.13)

abbrev zeros : ℕ → List ℕ
zeros n = replicate n 0

-- an unknown field: its code, its signature, and a value with the padding in front of it
abbrev unknown : ℕ → String → List ℕ → List ℕ
unknown code types value = code ∷ length (bytes types) ∷ (bytes types ++ (0 ∷ value))

-- a value of type y in n variants more than the field's own
abbrev nested : ℕ → List ℕ
nested zero = 1 ∷ byte "y" ∷ 0 ∷ 7 ∷ []
nested (suc n) = 1 ∷ byte "v" ∷ 0 ∷ nested n

-- a good call with more fields behind its own, the first of them at byte 48, and enough padding
abbrev wider : Order → List ℕ → List ℕ
wider o fields = message o call (path o ++ (member o ++ fields)) ++ zeros 7

abbrev ten : Order → List ℕ
ten o = unknown 10 "u" (number o 7)

-- a fault of an unknown field alone
abbrev bad_ten : Order → List ℕ
bad_ten o = unknown 10 "b" (number o 2)

abbrev unknown_lines : Order → List HeadRow
unknown_lines o =
    (wider o (ten o), 0)
    ∷ (wider o (ten o ++ ten o), 0)  -- repeated
    ∷ (wider o (unknown 255 "u" (number o 7)), 0)
    ∷ (wider o (unknown 0 "u" (number o 7)), 7)  -- code 0
    ∷ (set (call_cIn o) 32 10, 9)  -- the member's field is none now
    ∷ (message o call (unknown 10 "y" (7 ∷ zeros 3) ++ (path o ++ member o)), 0)
    ∷ (message o call (unknown 10 "y" (7 ∷ 0 ∷ 0 ∷ 1 ∷ []) ++ (path o ++ member o)), 7)  -- the padding behind it
    ∷ (wider o (unknown 10 "y" (7 ∷ 0 ∷ [])), 7)  -- an array that ends in padding
    ∷ (wider o (unknown 10 "u" (0 ∷ 0 ∷ [])), 7)  -- a value that runs past the array
    ∷ (wider o (unknown 10 "uu" (zeros 3 ++ (number o 1 ++ number o 1))), 7)  -- two types
    ∷ (wider o (unknown 10 "at" (zeros 11)), 0)  -- no element, and the padding in front of elements
    ∷ (wider o (unknown 10 "at" (zeros 7)), 7)  -- without it
    ∷ (wider o (unknown 10 "a{sv}" (number o 10 ++ (zeros 4 ++ (number o 1 ++ (byte "k" ∷ 0 ∷ 1 ∷ byte "y" ∷ 0 ∷ 7 ∷ []))))), 0)
    ∷ (wider o (bad_ten o), 7)  -- a boolean of 2
    ∷ (wider o (unknown 10 "s" (number o 2 ++ (0xc0 ∷ 0x80 ∷ 0 ∷ []))), 7)  -- not the shortest form
    ∷ (wider o (unknown 10 "s" (number o 3 ++ (0xed ∷ 0xa0 ∷ 0x80 ∷ 0 ∷ []))), 7)  -- a surrogate
    ∷ (message o call (path o ++ bad_ten o), 7)  -- 7 before 9
    ∷ (message o call (text o 1 "o" "foo/bar" ++ (member o ++ bad_ten o)), 7)  -- 7 before 8
    ∷ []

-- 64 variants open, the field's own among them, and 65
abbrev deep_lines : Order → List HeadRow
deep_lines o = (wider o (10 ∷ nested 63), 0) ∷ (wider o (10 ∷ nested 64), 7) ∷ []

-- ---- the tables

abbrev lines : Order → List HeadRow
lines o = fixed_lines o ++ (array_lines o ++ (required_lines o ++ (good_lines o ++ (unknown_lines o ++ deep_lines o))))

abbrev pub head_table : List HeadRow
head_table = lines Little ++ lines Big

abbrev pub head_answer : List ℕ → ℕ
head_answer s = reading_answer (read_header s)

-- what the first 16 bytes answer by themselves
abbrev fixed_only : Order → List HeadRow
fixed_only o = (call_cIn o, 0) ∷ (set (call_cIn o) 0 (byte "L"), 1) ∷ (fixed_bytes o 1 1 0 1 2032, 0) ∷ (fixed_bytes o 1 1 0 1 2033, 5)
    ∷ (fixed_bytes o 5 1 134217713 1 0, 6) ∷ []

abbrev pub fixed_table : List HeadRow
fixed_table = fixed_only Little ++ fixed_only Big

abbrev pub fixed_answer_to : List ℕ → ℕ
fixed_answer_to s = fixed_answer (fixed_part s)
