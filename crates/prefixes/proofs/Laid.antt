-- Where the parts of a new image stand: its header's numbers read back, each own rule is the row that it was made from, and what is kept stands whole.
use mathlib.Core.Path.{◌≡◌, sym, ap, ◌∙◌}
use mathlib.Core.Bool.{true}
use mathlib.Core.List.{List, [], ◌∷◌, ◌++◌, append_assoc}
use Prim.Native.Nat.{ℕ, zero, suc, ◌+◌, ◌-◌, ◌*◌, ◌≤◌, ◌<◌}
use native.Mathlib.Omega.{arith}
use lib.Dec.{leb}
use lib.ListN.{length, get_or, take, drop, length-append, length-drop}
use lib.Seq.{drop_at, drop-drop, length-take-le, take-take, take-append-le, drop-append-le}
use borrow.Author.Tests.{leb-true}
use Rattle.wire.specs.Words.{word_at, word_bytes}
use Rattle.wire.specs.declared.Order.TheVariants.{Little}
use Rattle.wire.proofs.Below.{row_each}
use Rattle.wire.proofs.Parts.{drop_taken}
use Rattle.wire.proofs.Words.{word_length, word_again, word_drop}
use Rattle.tables.specs.Tables.{cells}
use Rattle.tables.proofs.Cells.{cells_length}
use Rattle.image.specs.Image.{sections_at, total_length, rule_count, rule_offset, rule_size, rule_place, string_offset}
use Rattle.image.specs.Promises.{GoodImageHeader}
use Rattle.image.specs.declared.Section.TheVariants.{Connect, Own, Transaction}
use Rattle.prefixes.specs.Copies.{Copy, added, copies}
use Rattle.prefixes.specs.Converted.{own_bytes, new_owns, joined, new_transactions, new_strings, new_length, new_header}
use Rattle.prefixes.specs.Converted.{connect_bytes, behind_owns, converted, roomy}
use Rattle.prefixes.proofs.Rows.{Each, each_all, Wide, joined_long, joined_at, exact_long, rows_each}

-- a part that ends before a seam
pub part_before : (w a : ℕ) (xs ys : List ℕ) → a + w ≤ length xs → take w (drop a (xs ++ ys)) ≡ take w (drop a xs)
part_before w a xs ys h = rw (drop-append-le a xs ys (omega arith)) (take-append-le w (drop a xs) ys (omega (arith, length-drop a xs)))

-- ---- numbers in a row

-- each is read back
word_cells : (ws r : List ℕ) (k : ℕ) → k < length ws → get_or ws k 0 < 4294967296 → word_at Little (cells word_bytes ws ++ r) (4 * k) ≡ get_or ws k 0
unfolding cells
word_cells [] r k h l = absurd (omega arith)
word_cells (w ∷ ws) r zero h l = rw (append_assoc (word_bytes w) (cells word_bytes ws) r) (word_again w (cells word_bytes ws ++ r) l)
word_cells (w ∷ ws) r (suc k) h l =
    let e : 4 * suc k ≡ 4 + 4 * k = omega arith in
    let c = cells word_bytes ws ++ r in
    rw (append_assoc (word_bytes w) (cells word_bytes ws) r, e, ← word_drop Little (word_bytes w ++ c) 4 (4 * k), drop_at (word_bytes w) c 4 (word_length w))
    (word_cells ws r k (omega arith) l)

-- ---- what the test of the size says

-- a new image is as small as an image may be
pub record Small (image list : List ℕ) : Type 0 where
  pub owns : length (new_owns image list) ≤ 256
  pub total : new_length image list ≤ 65536

pub roomy_small : {image list : List ℕ} → (n : ℕ) → roomy image list n ≡ true → Small image list
unfolding roomy
roomy_small {image} {list} n f =
    let k = row_each true
    (leb (length (new_owns image list)) 256 ∷ leb (new_length image list) 65536 ∷ leb (new_length image list) n ∷ []) f in
    record { owns = leb-true (length (new_owns image list)) 256 (k 0); total = leb-true (new_length image list) 65536 (k 1) }

module _ (image list : List ℕ) (h : GoodImageHeader image) where
  -- the new image, and its last parts
  abbrev new : List ℕ
  new = converted image list

  abbrev pub behind_connects : List ℕ
  behind_connects = joined (new_owns image list) ++ (behind_owns image ++ joined (added image list))

  -- ---- lengths

  -- an own rule has 16 bytes
  pub own_long : (i : ℕ) → i < rule_count Own image → length (own_bytes image i) ≡ 16
  own_long i l =
      length-take-le 16 (drop (rule_place Own image i) image) (omega (arith, length-drop (rule_place Own image i) image))

  -- and so has each new one
  pub rows_wide : Each (Wide 16) (new_owns image list)
  rows_wide =
      rows_each image (λ (c : Copy). Unit {0}) (Wide 16) (copies image list)
      (each_all (λ (c : Copy). Unit {0}) (λ c. tt) (copies image list)) (rule_count Own image) (λ i l p. own_long i l)
      (λ i l p c q s. exact_long (own_bytes image i) c.offset (length c.name) (omega (arith, own_long i l)))

  connects_long : length (connect_bytes image) ≡ rule_offset Own image - sections_at
  connects_long = length-take-le (rule_offset Own image - sections_at) (drop sections_at image) (omega (arith, length-drop sections_at image))

  rows_long : length (joined (new_owns image list)) ≡ rule_size Own * length (new_owns image list)
  rows_long = joined_long 16 (new_owns image list) rows_wide

  header_long : length (cells word_bytes (new_header image list)) ≡ sections_at
  header_long = cells_length 4 word_bytes word_length (new_header image list)

  -- ---- what stands behind the header, and behind the connect rules

  behind_header : drop sections_at new ≡ connect_bytes image ++ behind_connects
  unfolding converted
  behind_header = drop_at (cells word_bytes (new_header image list)) (connect_bytes image ++ behind_connects) sections_at header_long

  pub behind_connects_lem : drop (rule_offset Own image) new ≡ behind_connects
  behind_connects_lem =
      let e : rule_offset Own image ≡ sections_at + (rule_offset Own image - sections_at) = omega arith in
      ap (λ (n : ℕ). drop n new) e
      ∙ sym (drop-drop (rule_offset Own image - sections_at) sections_at new)
      ∙ ap (drop (rule_offset Own image - sections_at)) behind_header
      ∙ drop_at (connect_bytes image) behind_connects (rule_offset Own image - sections_at) connects_long

  -- the transaction rules and the old strings stand behind the own rules, and then the added names
  behind_rows : drop (new_transactions image list) new ≡ behind_owns image ++ joined (added image list)
  behind_rows =
      sym (drop-drop (rule_size Own * length (new_owns image list)) (rule_offset Own image) new)
      ∙ ap (drop (rule_size Own * length (new_owns image list))) behind_connects_lem
      ∙ drop_at (joined (new_owns image list)) (behind_owns image ++ joined (added image list)) (rule_size Own * length (new_owns image list)) rows_long

  -- the added names stand behind the old strings
  behind_rules : drop (new_strings image list) new ≡ drop (string_offset image) image ++ joined (added image list)
  behind_rules =
      let t = rule_size Transaction * rule_count Transaction image in
      let e : rule_offset Transaction image + t ≡ string_offset image = omega arith in
      sym (drop-drop t (new_transactions image list) new)
      ∙ ap (drop t) behind_rows
      ∙ drop-append-le t (behind_owns image) (joined (added image list)) (omega (arith, length-drop (rule_offset Transaction image) image))
      ∙ ap (λ (s : List ℕ). s ++ joined (added image list)) (drop-drop t (rule_offset Transaction image) image ∙ ap (λ (n : ℕ). drop n image) e)

  pub new_long : length new ≡ new_length image list
  unfolding converted
  new_long =
      let b = behind_owns image in
      let a = joined (added image list) in
      length-append (cells word_bytes (new_header image list)) (connect_bytes image ++ behind_connects)
      ∙ omega (
        arith,
        header_long,
        length-append (connect_bytes image) behind_connects,
        connects_long,
        length-append (joined (new_owns image list)) (b ++ a),
        rows_long,
        length-append b a,
        length-drop (rule_offset Transaction image) image,
      )

  -- ---- the numbers of the header

  module _ (s : Small image list) where
    -- each is read back
    number : (k : ℕ) → k < 8 → get_or (new_header image list) k 0 < 4294967296 → word_at Little new (4 * k) ≡ get_or (new_header image list) k 0
    unfolding converted
    number k l b = word_cells (new_header image list) (connect_bytes image ++ behind_connects) k l b

    pub total_is : total_length new ≡ new_length image list
    total_is = number 0 (omega arith) (omega (arith, s.total))

    pub connects_are : rule_count Connect new ≡ rule_count Connect image
    connects_are = number 1 (omega arith) (omega arith)

    pub connects_start : rule_offset Connect new ≡ rule_offset Connect image
    connects_start = number 2 (omega arith) (omega arith)

    pub owns_are : rule_count Own new ≡ length (new_owns image list)
    owns_are = number 3 (omega arith) (omega (arith, s.owns))

    pub owns_start : rule_offset Own new ≡ rule_offset Own image
    owns_start = number 4 (omega arith) (omega arith)

    pub transactions_are : rule_count Transaction new ≡ rule_count Transaction image
    transactions_are = number 5 (omega arith) (omega arith)

    pub transactions_start : rule_offset Transaction new ≡ new_transactions image list
    transactions_start = number 6 (omega arith) (omega (arith, s.total))

    pub strings_start : string_offset new ≡ new_strings image list
    strings_start = number 7 (omega arith) (omega (arith, s.total))

    -- the transaction rules, the old strings and the added names stand where the header says, and so do the strings alone
    pub transactions_stand : drop (rule_offset Transaction new) new ≡ behind_owns image ++ joined (added image list)
    transactions_stand = ap (λ (n : ℕ). drop n new) transactions_start ∙ behind_rows

    pub strings_stand : drop (string_offset new) new ≡ drop (string_offset image) image ++ joined (added image list)
    strings_stand = ap (λ (n : ℕ). drop n new) strings_start ∙ behind_rules

    -- ---- the rules

    -- own rule p is row p
    pub own_row : (p : ℕ) → p < length (new_owns image list) → take 16 (drop (rule_place Own new p) new) ≡ get_or (new_owns image list) p []
    own_row p l =
        rw owns_start
        (ap (take 16) (sym (drop-drop (rule_size Own * p) (rule_offset Own image) new) ∙ ap (drop (rule_size Own * p)) behind_connects_lem)
        ∙ joined_at 16 (new_owns image list) rows_wide p l (behind_owns image ++ joined (added image list)))

    -- the connect rules are those of the old image, byte for byte
    pub connect_row : (i : ℕ) → i < rule_count Connect image → take 8 (drop (rule_place Connect new i) new) ≡ take 8 (drop (rule_place Connect image i) image)
    connect_row i l =
        let k = rule_offset Own image - sections_at in
        let o = rule_size Connect * i in
        let b = drop sections_at image in
        rw (connects_start, h.connects_at)
        (ap (take 8) (sym (drop-drop o sections_at new) ∙ ap (drop o) behind_header)
        ∙ part_before 8 o (connect_bytes image) behind_connects (omega (arith, connects_long))
        ∙ ap (take 8) (drop_taken o k b)
        ∙ take-take 8 (k - o) (drop o b) (omega arith)
        ∙ ap (take 8) (drop-drop o sections_at image))

    -- and so are the transaction rules
    pub transaction_row : (i : ℕ) → i < rule_count Transaction image
        → take 40 (drop (rule_place Transaction new i) new) ≡ take 40 (drop (rule_place Transaction image i) image)
    transaction_row i l =
        let o = rule_size Transaction * i in
        ap (take 40) (sym (drop-drop o (rule_offset Transaction new) new) ∙ ap (drop o) transactions_stand)
        ∙ part_before 40 o (behind_owns image) (joined (added image list)) (omega (arith, length-drop (rule_offset Transaction image) image))
        ∙ ap (take 40) (drop-drop o (rule_offset Transaction image) image)
