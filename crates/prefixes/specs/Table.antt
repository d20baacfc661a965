-- Worked examples of conversions, as a table.
use Rattle.std.specs.Prelude.{List, [], ◌∷◌, ◌++◌, ℕ, length, take, replicate}
use Prim.Native.String.{String}
use Rattle.wire.specs.Bytes.{bytes}
use Rattle.image.specs.Table.{image_of, head, cites}
use Rattle.prefixes.specs.Converted.{retire_answer, retire_length, retire_room}

-- ---- what is lent

-- a name behind its length byte (rule 14.2)
abbrev pub entry : String → List ℕ
entry name = length (bytes name) ∷ bytes name

-- an image, a list of names, and how many bytes of room
pub record Lent : Type 0 where
  pub image : List ℕ
  pub names : List ℕ
  pub room : ℕ

abbrev pub lends : List ℕ → List ℕ → ℕ → Lent
lends image names room = record { image = image; names = names; room = room }

-- the room is filled with a byte that no example writes
abbrev pub unwritten : ℕ → List ℕ
unwritten n = replicate n 165

-- the answer of a conversion, the length that it reports, and the room behind it
abbrev pub retired : Lent → List ℕ
retired l = retire_answer l.image l.names l.room
    ∷ retire_length l.image l.names l.room
    ∷ retire_room l.image l.names (unwritten l.room)

-- a refusal reports no length and writes nothing (rule 14.5)
abbrev pub refused : ℕ → ℕ → List ℕ
refused answer room = answer ∷ 0 ∷ unwritten room

-- the image is written, and so many bytes of the room are left
abbrev pub written : List ℕ → ℕ → List ℕ
written image left = 0 ∷ length image ∷ (image ++ unwritten left)

abbrev pub ConversionRow : Type 0
ConversionRow = Lent × List ℕ

-- ---- images

-- group 5 may own what is under org.a
abbrev pub one_prefix : List ℕ
one_prefix = image_of [] (head 1 1 2 0 5 ++ cites 0 5) [] (bytes "org.a")

-- nobody may own what is under org.a; everybody may own any name; user 7 may own org.b; user 7 may own what is under org.a.b
abbrev pub many_rules : List ℕ
many_rules =
    image_of
    (head 0 1 1 0 7)
    (head 0 0 2 0 0 ++ cites 0 5 ++ (head 0 1 0 0 0 ++ cites 0 0) ++ (head 2 1 1 0 7 ++ cites 5 5) ++ (head 2 1 2 0 7 ++ cites 10 7))
    (head 0 1 0 0 0 ++ replicate 32 0)
    (bytes "org.aorg.borg.a.b")

-- the same for the names org.a.b, org.b, org.a.b.c and org.a, of which three are covered
abbrev pub many_exact : List ℕ
many_exact =
    image_of
    (head 0 1 1 0 7)
    (head 0 0 1 0 0
    ++ cites 17 7
    ++ (head 0 0 1 0 0 ++ cites 24 9)
    ++ (head 0 0 1 0 0 ++ cites 33 5)
    ++ (head 0 1 0 0 0 ++ cites 0 0)
    ++ (head 2 1 1 0 7 ++ cites 5 5)
    ++ (head 2 1 1 0 7 ++ cites 17 7)
    ++ (head 2 1 1 0 7 ++ cites 24 9))
    (head 0 1 0 0 0 ++ replicate 32 0)
    (bytes "org.aorg.borg.a.borg.a.borg.a.b.corg.a")

-- ---- rows

-- what is refused, the image before the list and the list before the room (rule 14.5)
abbrev pub refusals : List ConversionRow
refusals =
    (lends (take 31 one_prefix) (entry "org") 0, refused 50 0)
    -- a name that is cut, an empty one, one of one element, one that is there twice
    ∷ (lends one_prefix (take 5 (entry "org.a")) 99, refused 54 99)
    ∷ (lends one_prefix (0 ∷ []) 99, refused 54 99)
    ∷ (lends one_prefix (entry "org") 0, refused 54 0)
    ∷ (lends one_prefix (entry "org.a" ++ entry "org.b" ++ entry "org.a") 99, refused 54 99)
    -- also where no rule needs the list
    ∷ (lends (image_of [] [] [] []) (entry "org") 99, refused 54 99)
    -- one byte of room is missing
    ∷ (lends one_prefix (entry "org.a") 57, refused 53 57)
    ∷ []

-- what becomes of one prefix (rules 14.3 and 14.4)
abbrev pub of_one_prefix : List ConversionRow
of_one_prefix =
    (lends one_prefix (entry "org.a") 58, written (image_of [] (head 1 1 1 0 5 ++ cites 5 5) [] (bytes "org.aorg.a")) 0)
    -- no name, and names that it does not cover
    ∷ (lends one_prefix [] 40, written (image_of [] [] [] (bytes "org.a")) 3)
    ∷ (lends one_prefix (entry "org.ab" ++ entry "org.freedesktop.DBus") 37, written (image_of [] [] [] (bytes "org.a")) 0)
    -- no prefix: the image is as it was
    ∷ (lends (image_of [] [] [] (bytes "org.a")) (entry "org.a") 40, written (image_of [] [] [] (bytes "org.a")) 3)
    ∷ []

-- of two prefixes between other rules: each in its place and in list order; a name that both cover is added once, also where its text stands already
abbrev pub of_many_rules : List ConversionRow
of_many_rules = (lends many_rules (entry "org.a.b" ++ entry "org.b" ++ entry "org.a.b.c" ++ entry "org.a") 300, written many_exact 70) ∷ []
