-- The class of a byte, which the scanner looks up in a constant table: a bit for each thing that it asks of a byte. `proofs/Lookup.antt` shows that
-- the table answers as `character` does, for every byte and form.
use Rattle.std.specs.Prelude.{cond, List, [], ◌∷◌, ℕ, zero, suc, ◌+◌, eqb}
use Rattle.wire.specs.Bytes.{byte}
use Rattle.names.specs.declared.Form.{Form}
use Rattle.names.specs.declared.Form.TheVariants.{Interface, WellKnown, Unique, BusName, Member, Path}
use Rattle.names.specs.Names.{digit, alphabetic}

-- the kinds of byte that the name rules tell apart
pub data ByteKind : Type 0 where
  digits : ByteKind
  letters : ByteKind
  dash : ByteKind
  dot : ByteKind
  slash : ByteKind
  others : ByteKind

unfoldable pub byte_kind : ℕ → ByteKind
byte_kind b =
    cond (digit b) digits
    (cond (alphabetic b) letters (cond (eqb b (byte "-")) dash (cond (eqb b (byte ".")) dot (cond (eqb b (byte "/")) slash others))))

-- ---- the bits

-- the byte stands in no interface, in no name of a bus, in no path
abbrev pub not_interface : ℕ
not_interface = 1

abbrev pub not_bus_name : ℕ
not_bus_name = 2

abbrev pub not_path : ℕ
not_path = 4

abbrev pub digit_bit : ℕ
digit_bit = 8

abbrev pub dot_bit : ℕ
dot_bit = 16

abbrev pub slash_bit : ℕ
slash_bit = 32

-- no scan asks for this one: by it each class is a letter or a sign, so that the table can be read as a text
abbrev pub plain_bit : ℕ
plain_bit = 64

-- ---- the table

abbrev pub kind_class : ByteKind → ℕ
kind_class digits = plain_bit + digit_bit
kind_class letters = plain_bit
kind_class dash = plain_bit + not_interface + not_path
kind_class dot = plain_bit + not_path + dot_bit
kind_class slash = plain_bit + not_interface + not_bus_name + slash_bit
kind_class others = plain_bit + not_interface + not_bus_name + not_path

unfoldable pub class_of : ℕ → ℕ
class_of b = kind_class (byte_kind b)

-- the values of f from a on, n of them
abbrev pub tabled : (ℕ → ℕ) → ℕ → ℕ → List ℕ
tabled f a zero = []
tabled f a (suc n) = f a ∷ tabled f (suc a) n

-- the class of each byte
unfoldable pub class_table : List ℕ
class_table = tabled class_of 0 256

-- ---- what is asked of a class

-- the bits that no character of the form has
abbrev pub no_character : Form → ℕ
no_character Interface = not_interface + dot_bit
no_character WellKnown = not_bus_name + dot_bit
no_character Unique = not_bus_name + dot_bit
no_character BusName = not_bus_name + dot_bit
no_character Member = not_interface + dot_bit
no_character Path = not_path + slash_bit

-- the bits of the bytes that stand nowhere in a name of the form, separators included
abbrev pub barred : Form → ℕ
barred Interface = not_interface
barred WellKnown = not_bus_name
barred Unique = not_bus_name
barred BusName = not_bus_name
barred Member = not_interface + dot_bit
barred Path = not_path
