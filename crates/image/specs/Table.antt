-- Worked examples of policy images, as a table.
use Rattle.std.specs.Prelude.{List, [], ◌∷◌, ◌++◌, ℕ, ◌+◌, ◌/◌, length, take, set, replicate}
use Rattle.wire.specs.Bytes.{bytes}
use Rattle.wire.specs.Words.{word_bytes}

-- the image of the sections' bytes, behind the header that they take
abbrev pub image_of : List ℕ → List ℕ → List ℕ → List ℕ → List ℕ
image_of connects owns transactions strings =
    let own = 32 + length connects in
    let transaction = own + length owns in
    let string = transaction + length transactions in
    word_bytes (string + length strings)
    ++ word_bytes (length connects / 8)
    ++ word_bytes 32
    ++ word_bytes (length owns / 16)
    ++ word_bytes own
    ++ word_bytes (length transactions / 40)
    ++ word_bytes transaction
    ++ word_bytes string
    ++ connects
    ++ owns
    ++ transactions
    ++ strings

-- four bytes and a number
abbrev pub head : ℕ → ℕ → ℕ → ℕ → ℕ → List ℕ
head a b c d n = a ∷ b ∷ c ∷ d ∷ word_bytes n

-- a string's offset and length
abbrev pub cites : ℕ → ℕ → List ℕ
cites offset len = word_bytes offset ++ word_bytes len

-- an image, and its answer
abbrev pub ImageRow : Type 0
ImageRow = List ℕ × ℕ

-- header and connect rules
abbrev pub image_table : List ImageRow
image_table =
    (image_of [] [] [] [], 0)
    ∷ (take 31 (image_of [] [] [] []), 50)
    -- own and transaction rules and strings from byte 40 on, behind a gap; one transaction rule and strings from byte 72 on, behind the end
    ∷ (set (set (set (image_of [] [] [] (replicate 8 0)) 16 40) 24 40) 28 40, 50)
    ∷ (set (set (image_of [] [] [] []) 20 1) 28 72, 50)
    ∷ (image_of [] [] [] (bytes "any bytes"), 0)
    ∷ (image_of (head 0 1 1 0 7) [] [] [], 0)
    ∷ (image_of (head 1 1 1 0 7) [] [] [], 50)
    ∷ (image_of (head 0 1 0 0 7) [] [] [], 50)
    ∷ (image_of (head 0 1 1 1 7) [] [] [], 50)
    ∷ []

-- own rules
abbrev pub own_rows : List ImageRow
own_rows =
    (image_of [] (head 1 1 2 0 5 ++ cites 0 0) [] [], 50)
    ∷ (image_of [] (head 1 1 0 0 5 ++ cites 0 0) [] [], 0)
    ∷ (image_of [] (head 0 1 2 0 5 ++ cites 0 5) [] (bytes "org.a"), 50)
    ∷ (image_of [] (head 1 1 2 0 5 ++ cites 0 6) [] (bytes "org.a"), 50)
    ∷ (image_of [] (head 1 1 2 0 5 ++ cites 0 5) [] (bytes "org.a"), 0)
    ∷ []

-- transaction rules
abbrev pub transactions : List ImageRow
transactions =
    (image_of [] [] (head 0 0 0 0 0 ++ replicate 32 0) [], 0)
    ∷ (image_of [] [] (head 0 0 0 2 0 ++ replicate 32 0) [], 50)
    ∷ (image_of [] [] (head 0 0 0 0 0 ++ cites 1 0 ++ replicate 24 0) [], 50)
    ∷ (image_of [] [] (head 2 0 1 4 9 ++ cites 2 5 ++ cites 0 2 ++ cites 2 5 ++ cites 1 4) (bytes "/aorg.a"), 0)
    ∷ []
