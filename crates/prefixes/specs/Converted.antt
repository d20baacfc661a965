-- What a conversion makes of an image, and what it answers.
use Rattle.std.specs.Prelude.{Bool, cond, ◌&&◌, List, [], ◌∷◌, ◌++◌, map, ℕ, zero, suc, ◌+◌, ◌-◌, ◌*◌, leb, eqb, length, take, drop}
use Rattle.wire.specs.Words.{word_bytes}
use Rattle.names.specs.Namespace.{in_namespace}
use Rattle.tables.specs.Tables.{cells}
use Rattle.image.specs.Image.{sections_at, matcher_byte, reserved_byte, name_span, rule_count, rule_offset, rule_place, rule_size, string_offset}
use Rattle.image.specs.Rules.{policy_rule}
use Rattle.image.specs.Good.{is_prefix_rule, good_image}
use Rattle.image.specs.declared.Section.TheVariants.{Connect, Own, Transaction}
use Rattle.prefixes.specs.Names.{good_list}
use Rattle.prefixes.specs.Copies.{passing, own_text, Copy, copies, added}

-- ---- the own rules

-- the bytes of own rule i
abbrev pub own_bytes : List ℕ → ℕ → List ℕ
own_bytes image i = take (rule_size Own) (drop (rule_place Own image i) image)

-- a rule with these bytes made exact: its context, verdict, zero and subject stay, its matcher is that of one name, and it cites this string (rule 14.3)
unfoldable pub exact : List ℕ → ℕ → ℕ → List ℕ
exact rule offset len =
    take matcher_byte rule ++ (1 ∷ (take (name_span - reserved_byte) (drop reserved_byte rule) ++ (word_bytes offset ++ word_bytes len)))

-- a rule with these bytes and this prefix becomes an exact rule for each name that it covers, in list order; each cites its copy (rule 14.3)
unfoldable pub exacts : List ℕ → List ℕ → List Copy → List (List ℕ)
exacts rule prefix cs = map (λ c. exact rule c.offset (length c.name)) (passing (λ c. in_namespace prefix c.name) cs)

-- what becomes of own rule i: itself, where it is about no prefix (rule 14.3)
unfoldable pub becomes : List ℕ → List Copy → ℕ → List (List ℕ)
becomes image cs i = cond (is_prefix_rule (policy_rule Own image i)) (exacts (own_bytes image i) (own_text image i) cs) (own_bytes image i ∷ [])

-- what becomes of the first n, each in its place
unfoldable pub become_all : List ℕ → List Copy → ℕ → List (List ℕ)
become_all image cs zero = []
become_all image cs (suc i) = become_all image cs i ++ becomes image cs i

-- the new own rules (rule 14.3)
abbrev pub new_owns : List ℕ → List ℕ → List (List ℕ)
new_owns image list = become_all image (copies image list) (rule_count Own image)

-- ---- the image

abbrev pub joined : List (List ℕ) → List ℕ
joined parts = cells (λ part. part) parts

-- where the transaction rules and the strings stand behind so many own rules (rule 14.4)
abbrev pub transactions_behind : List ℕ → ℕ → ℕ
transactions_behind image owns = rule_offset Own image + rule_size Own * owns

abbrev pub strings_behind : List ℕ → ℕ → ℕ
strings_behind image owns = transactions_behind image owns + rule_size Transaction * rule_count Transaction image

-- the eight numbers of a header, where the image has so many bytes and own rules (rules 5.1 and 14.4)
abbrev pub header_of : List ℕ → ℕ → ℕ → List ℕ
header_of image size owns =
    size
    ∷ rule_count Connect image
    ∷ rule_offset Connect image
    ∷ owns
    ∷ rule_offset Own image
    ∷ rule_count Transaction image
    ∷ transactions_behind image owns
    ∷ strings_behind image owns
    ∷ []

-- the same of the new image, and its end (rule 14.4)
abbrev pub new_transactions : List ℕ → List ℕ → ℕ
new_transactions image list = transactions_behind image (length (new_owns image list))

abbrev pub new_strings : List ℕ → List ℕ → ℕ
new_strings image list = strings_behind image (length (new_owns image list))

abbrev pub new_length : List ℕ → List ℕ → ℕ
new_length image list = new_strings image list + (length image - string_offset image) + length (joined (added image list))

abbrev pub new_header : List ℕ → List ℕ → List ℕ
new_header image list = header_of image (new_length image list) (length (new_owns image list))

-- the connect rules, and the transaction rules with the old strings, which stay as they are (rule 14.4)
abbrev pub connect_bytes : List ℕ → List ℕ
connect_bytes image = take (rule_offset Own image - sections_at) (drop sections_at image)

abbrev pub behind_owns : List ℕ → List ℕ
behind_owns image = drop (rule_offset Transaction image) image

-- the new image (rules 14.1 and 14.4)
unfoldable pub converted : List ℕ → List ℕ → List ℕ
converted image list =
    cells word_bytes (new_header image list)
    ++ (connect_bytes image ++ (joined (new_owns image list) ++ (behind_owns image ++ joined (added image list))))

-- ---- the answer

-- it has no more own rules and bytes than an image may have, and no more bytes than the room (rule 14.5)
unfoldable pub roomy : List ℕ → List ℕ → ℕ → Bool
roomy image list room =
    leb (length (new_owns image list)) 256 && leb (new_length image list) 65536 && leb (new_length image list) room

-- the first test that fails (rule 14.5)
unfoldable pub retire_answer : List ℕ → List ℕ → ℕ → ℕ
retire_answer image list room = cond (good_image image) (cond (good_list list) (cond (roomy image list room) 0 53) 54) 50

-- the length that is reported, 0 of a refusal, and the room behind the call, of which a refusal keeps every byte (rule 14.5)
abbrev pub retire_length : List ℕ → List ℕ → ℕ → ℕ
retire_length image list room = cond (eqb (retire_answer image list room) 0) (new_length image list) 0

abbrev pub retire_room : List ℕ → List ℕ → List ℕ → List ℕ
retire_room image list room =
    cond (eqb (retire_answer image list (length room)) 0) (converted image list ++ drop (new_length image list) room) room
