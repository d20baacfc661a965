-- A new image written: what stands before the own rules, the own rules, and what stands behind them.
use mathlib.Core.Path.{◌≡◌, ap, ap₂, ◌∙◌}
use mathlib.Core.List.{List, ◌++◌, append_assoc}
use Prim.Native.Nat.{ℕ, ◌+◌, ◌-◌, ◌*◌, ◌≤◌}
use native.Mathlib.Omega.{arith}
use lib.ListN.{length, take, drop, length-append, length-drop}
use lib.Seq.{drop-drop, length-take-le}
use borrow.Author.Rules.{rules}
use Rattle.wire.specs.Words.{word_bytes}
use Rattle.wire.proofs.Words.{word_length, rest_at}
use Rattle.tables.specs.Tables.{cells}
use Rattle.tables.proofs.Cells.{cells_length}
use Rattle.image.specs.Image.{sections_at, rule_count, rule_offset, rule_size}
use Rattle.image.specs.Promises.{GoodImage}
use Rattle.image.specs.declared.Section.TheVariants.{Own, Transaction}
use Rattle.prefixes.specs.Copies.{added}
use Rattle.prefixes.specs.Converted.{become_all, joined, new_owns, new_length, new_header, connect_bytes, behind_owns, converted, header_of}
use Rattle.lists.specs.Promises.{names_at, NamesAt}
use Rattle.exacts.specs.Promises.{put, Puts, copies_at, OwnsAt, front_of, FrontAt, back_of, BackAt, Writes}
use Rattle.exacts.proofs.Rows.{put_behind, put_long, puts_put, puts_long}

-- a part from a to b of a room, put back
part_put : (a b : ℕ) (m y : List ℕ) → a ≤ b → length y ≡ b - a → take a m ++ (y ++ drop (b - a) (drop a m)) ≡ put a y m
part_put a b m y h e = rw (drop-drop (b - a) a m, e)

-- ---- before the own rules

header_long : (image : List ℕ) (size owns : ℕ) → length (cells word_bytes (header_of image size owns)) ≡ sections_at
header_long image size owns = cells_length 4 word_bytes word_length (header_of image size owns)

module _ {image : List ℕ} (g : GoodImage image) where
  connect_long : length (connect_bytes image) ≡ rule_offset Own image - sections_at
  connect_long =
      let h = g.header in
      length-take-le (rule_offset Own image - sections_at) (drop sections_at image) (omega (arith, length-drop sections_at image))

  front_long : (size owns : ℕ) → length (front_of image size owns) ≡ rule_offset Own image
  front_long size owns =
      let h = g.header in
      length-append (cells word_bytes (header_of image size owns)) (connect_bytes image) ∙ omega (arith, header_long image size owns, connect_long)

  behind_long : length (behind_owns image) ≡ length image - rule_offset Transaction image
  behind_long = length-drop (rule_offset Transaction image) image

module _ {room image : List ℕ} {size owns : ℕ} (f : FrontAt room image size owns) {u : List ℕ}
    (e : u ≡ put 0 (cells word_bytes (header_of image size owns)) room) {to : ℕ} (p : to ≡ rule_offset Own image) {y : List ℕ}
    (q : y ≡ take (to - sections_at) (drop sections_at image)) where
  pub front_put : take sections_at u ++ (y ++ drop (to - sections_at) (drop sections_at u)) ≡ put 0 (front_of image size owns) room
  front_put =
      let h = f.good.header in
      let x = cells word_bytes (header_of image size owns) in
      let w : y ≡ connect_bytes image = q ∙ rw p in
      let l : sections_at ≡ 0 + length x = omega (arith, header_long image size owns) in
      part_put sections_at to u y (omega (arith, p)) (ap length w ∙ connect_long f.good ∙ rw p)
      ∙ put_behind room x y 0 e l (omega (arith, f.fits))
      ∙ ap (λ (z : List ℕ). put 0 (x ++ z) room) w

pub ruleset fronting = (front_put, rules)

-- ---- behind them

module _ {room : List ℕ} {at : ℕ} {image list starts : List ℕ} (b : BackAt room at image list starts) {from : ℕ} (p : from ≡ rule_offset Transaction image)
    {y : List ℕ} (q : y ≡ take (length image - from) (drop from image)) where
  -- the room behind the copy
  abbrev copied : List ℕ
  copied = take at room ++ (y ++ drop (at + length image - from - at) (drop at room))

  abbrev to : ℕ
  to = at + length image - from

  to_is : to ≡ at + length (behind_owns image)
  to_is = let h = b.good.header in omega (arith, p, behind_long b.good)

  copied_is : copied ≡ put at (behind_owns image) room
  copied_is =
      let w : y ≡ behind_owns image = q ∙ rest_at from image ∙ rw p in
      part_put at to room y (omega (arith, to_is)) (ap length w ∙ omega (arith, to_is)) ∙ rw w

  copied_long : length copied ≡ length room
  copied_long = ap length copied_is ∙ put_long room (behind_owns image) at (omega (arith, b.fits, to_is))

  pub back_fits : (to + length (joined (names_at list starts)) ≤ length copied) × NamesAt list starts
  back_fits = (omega (arith, b.fits, to_is, copied_long), b.each)

  pub back_put : {u : List ℕ} → u ≡ put to (joined (names_at list starts)) copied → u ≡ put at (back_of image list starts) room
  back_put e = e ∙ put_behind room (behind_owns image) (joined (names_at list starts)) at copied_is to_is (omega (arith, b.fits, to_is))

pub ruleset backing = (back_fits, back_put, rules)

-- ---- the image

module _ {image list starts : List ℕ} {size owns : ℕ} {room : List ℕ} (w : Writes image list starts size owns room) where
  -- the room that the parts take
  parts_fit_lem : rule_offset Own image + rule_size Own * length (new_owns image list) + (length image - rule_offset Transaction image) + length (joined (added image list)) ≤ length room
  parts_fit_lem = let h = w.good.header in omega (arith, w.fits, w.sized)

  pub written_front : FrontAt room image size owns
  written_front = record { good = w.good; small = w.small; few = w.few; fits = omega (arith, parts_fit_lem) }

  -- the rows that are put
  abbrev rows : List (List ℕ)
  rows = become_all image (copies_at image list starts) (rule_count Own image)

  rows_are : rows ≡ new_owns image list
  rows_are = rw w.names

  names_are : joined (names_at list starts) ≡ joined (added image list)
  names_are = rw w.names

  -- as many bytes as a new image has
  whole_long : (k : ℕ) {n at from : ℕ} → n ≡ k + length (back_of image list starts) → at ≡ 0 + k → at ≡ from + rule_size Own * length rows
      → from ≡ rule_offset Own image → 0 + n ≡ new_length image list
  whole_long k a b c d =
      let h = w.good.header in
      let o : length rows ≡ length (new_owns image list) = ap length rows_are in
      omega (
        arith,
        length-append (behind_owns image) (joined (names_at list starts)),
        behind_long w.good,
        ap length names_are,
        h.transactions_at,
        h.strings_at,
        h.strings_inside,
      )

  module _ {u : List ℕ} (e : u ≡ put 0 (front_of image size owns) room) {from : ℕ} (p : from ≡ rule_offset Own image) where
    front_end : from ≡ 0 + length (front_of image size owns)
    front_end = omega (arith, front_long w.good size owns)

    front_kept : length u ≡ length room
    front_kept = ap length e ∙ put_long room (front_of image size owns) 0 (omega (arith, front_end, parts_fit_lem))

    pub written_owns : OwnsAt u from image list starts
    written_owns =
        let h = w.good.header in
        record {
          good = w.good;
          fits = omega (arith, parts_fit_lem, front_kept, ap length rows_are);
          small = omega (arith, ap length names_are, w.small, w.sized);
          each = w.each;
        }

  module _ {from at : ℕ} {u v : List ℕ} (q : Puts rows from u at v) (p : from ≡ rule_offset Own image) where
    pub written_back : length u ≡ length room → BackAt v at image list starts
    written_back k =
        let o : length rows ≡ length (new_owns image list) = ap length rows_are in
        let l : length v ≡ length u = puts_long q (omega (arith, parts_fit_lem, q.ends)) in
        record { good = w.good; fits = omega (arith, parts_fit_lem, ap length names_are, q.ends); each = w.each }

    pub written_all : u ≡ put 0 (front_of image size owns) room → {x : List ℕ} → x ≡ put at (back_of image list starts) v
        → x ≡ converted image list ++ drop (new_length image list) room
    unfolding converted
    written_all e f =
        let front = front_of image size owns in
        let back = back_of image list starts in
        let j = joined rows in
        let o : length rows ≡ length (new_owns image list) = ap length rows_are in
        let head : cells word_bytes (header_of image size owns) ≡ cells word_bytes (new_header image list)
        = ap₂ (λ (s n : ℕ). cells word_bytes (header_of image s n)) w.sized w.owned in
        let a : v ≡ put 0 (front ++ j) room
        = puts_put q ∙ put_behind room front j 0 e (front_end e p) (omega (arith, parts_fit_lem)) in
        let b : at ≡ 0 + length (front ++ j) = omega (arith, length-append front j, front_end e p, q.ends, q.long) in
        let c : (front ++ j) ++ back ≡ converted image list = rw (head, rows_are, names_are) (simp append_assoc) in
        let l : 0 + length ((front ++ j) ++ back) ≡ new_length image list
        = whole_long (length (front ++ j)) (length-append (front ++ j) back) b q.ends p in
        f ∙ put_behind room (front ++ j) back 0 a b (omega (arith, parts_fit_lem, q.ends)) ∙ ap₂ (λ (z : List ℕ) (n : ℕ). z ++ drop n room) c l

pub ruleset writing = (written_front, written_owns, written_back, written_all, rules)
