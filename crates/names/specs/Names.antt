-- The name rules: which byte strings are names, form by form (rules 3.1, 3.2, 3.3, 3.4, 3.5, 3.6 and 3.7).
use Rattle.std.specs.Prelude.{Bool, true, false, cond, not, ◌&&◌, ◌||◌, List, [], ◌∷◌, ℕ, leb, eqb, length, drop}
use Rattle.wire.specs.Lists.{every}
use Rattle.wire.specs.Bytes.{byte, between}
use Rattle.names.specs.declared.Form.{Form}
use Rattle.names.specs.declared.Form.TheVariants.{Interface, WellKnown, Unique, BusName, Member, Path}

-- ---- bytes

abbrev pub digit : ℕ → Bool
digit b = between "0" "9" b

abbrev pub alphabetic : ℕ → Bool
alphabetic b = between "A" "Z" b || between "a" "z" b || eqb b (byte "_")

-- ---- forms

-- `-` may stand in the elements of a bus's names, at any place (rules 3.3, 3.4 and 3.5)
abbrev pub dashed : Form → Bool
dashed Interface = false
dashed WellKnown = true
dashed Unique = true
dashed BusName = true
dashed Member = false
dashed Path = false

-- a digit may begin an element of a unique name or of a path (rules 3.4 and 3.7). Of a bus name, here and above, it is said what either kind may have
abbrev pub leads : Form → Bool
leads Interface = false
leads WellKnown = false
leads Unique = true
leads BusName = true
leads Member = false
leads Path = true

-- what stands between two elements (rules 3.2 and 3.7)
abbrev pub separator : Form → ℕ
separator Interface = byte "."
separator WellKnown = byte "."
separator Unique = byte "."
separator BusName = byte "."
separator Member = byte "."
separator Path = byte "/"

-- the characters of a form's elements: A-Z a-z _ 0-9 (rules 3.2, 3.6 and 3.7), and - where `dashed`. A separator is none
abbrev pub character : Form → ℕ → Bool
character form b = alphabetic b || digit b || dashed form && eqb b (byte "-")

-- ---- elements

-- what stands before the first `sep`, and the pieces after each `sep`
abbrev pub cut : ℕ → List ℕ → List ℕ × List (List ℕ)
cut sep [] = ([], [])
cut sep (b ∷ s) = let p = cut sep s in cond (eqb b sep) ([], p.0 ∷ p.1) (b ∷ p.0, p.1)

-- the pieces of s that `sep` separates, one more than there are `sep`s (rule 3.2)
abbrev pub pieces : ℕ → List ℕ → List (List ℕ)
pieces sep s = (cut sep s).0 ∷ (cut sep s).1

-- an element is not empty, is made of the form's characters, and starts with a digit only where one `leads` (rule 3.2)
abbrev pub element : Form → List ℕ → Bool
element form [] = false
element form (b ∷ e) = (leads form || not (digit b)) && every (character form) (b ∷ e)

-- ---- names

-- names have a limit, paths have none (rule 3.1)
abbrev pub name_limit : ℕ
name_limit = 255

abbrev pub short : List ℕ → Bool
short s = leb (length s) name_limit

unfoldable pub starts_with : ℕ → List ℕ → Bool
starts_with b [] = false
starts_with b (x ∷ s) = eqb x b

-- s is elements with the form's separator between them
abbrev pub elements : Form → List ℕ → Bool
elements form s = every (element form) (pieces (separator form) s)

abbrev pub two_or_more : Form → List ℕ → Bool
two_or_more form s = elements form s && leb 2 (length (pieces (separator form) s))

-- an interface name, or a well-known one (rules 3.2 and 3.3)
abbrev pub dotted : Form → List ℕ → Bool
dotted form s = short s && two_or_more form s

unfoldable pub well_known : List ℕ → Bool
well_known s = dotted WellKnown s

-- the colon counts towards the limit, and is no part of an element (rules 3.1 and 3.4)
unfoldable pub unique : List ℕ → Bool
unique s = short s && starts_with (byte ":") s && two_or_more Unique (drop 1 s)

-- an error name is an interface name (rule 3.2); bus names, members and paths are by rules 3.5, 3.6 and 3.7
unfoldable pub valid_name : Form → List ℕ → Bool
valid_name Interface s = dotted Interface s
valid_name WellKnown s = well_known s
valid_name Unique s = unique s
valid_name BusName s = unique s || well_known s
valid_name Member s = short s && (elements Member s && eqb (length (pieces (separator Member) s)) 1)
valid_name Path s = starts_with (byte "/") s && (eqb (length s) 1 || elements Path (drop 1 s))
