-- The strings of a new image: one that the old image has is the same in the new one, and each copy is its name.
use mathlib.Core.Path.{◌≡◌, refl, sym, ap, ◌∙◌}
use mathlib.Core.Bool.{Bool, true, false, cond}
use mathlib.Core.List.{List, [], ◌∷◌, ◌++◌, append_assoc}
use Prim.Native.Nat.{ℕ, ◌+◌, ◌-◌, ◌≤◌, ◌<◌}
use native.Mathlib.Omega.{arith}
use lib.ListN.{length, get_or, take, drop, length-append, length-drop}
use lib.Seq.{take_at, drop_at, drop-drop}
use Rattle.wire.specs.Lists.{every, distinct}
use Rattle.wire.specs.Bytes.{same}
use Rattle.wire.proofs.Texts.{both_first, both_second}
use Rattle.names.specs.Names.{valid_name}
use Rattle.names.specs.declared.Form.TheVariants.{WellKnown}
use Rattle.tables.specs.Tables.{cells}
use Rattle.image.specs.Image.{string_offset}
use Rattle.image.specs.Rules.{Span, text_of}
use Rattle.image.specs.Promises.{GoodImageHeader}
use Rattle.image.proofs.RuleHolds.{Inside}
use Rattle.prefixes.specs.Names.{listed, whole, good_names, good_list}
use Rattle.prefixes.specs.Copies.{passing, covered, added, Copy, copies_from, copies}
use Rattle.prefixes.specs.Converted.{joined, converted}
use Rattle.prefixes.proofs.Rows.{Each, each_at, each_map}
use Rattle.prefixes.proofs.Laid.{Small, part_before, new_long, strings_start, strings_stand}

-- ---- the names

Valid : List ℕ → Type 0
Valid name = valid_name WellKnown name ≡ true

-- what holds of each thing holds of those that pass
passing_each : {A : Type 0} (P : A → Type 0) (t : A → Bool) (xs : List A) → Each P xs → Each P (passing t xs)
unfolding passing
passing_each P t [] p = tt
passing_each P t (x ∷ xs) p = go (passing_each P t xs p.1) (t x)
  where
    go : Each P (passing t xs) → (b : Bool) → Each P (cond b (x ∷ passing t xs) (passing t xs))
    go r true = (p.0, r)
    go r false = r

every_valid : (xs : List (List ℕ)) → every (valid_name WellKnown) xs ≡ true → Each Valid xs
unfolding Valid
every_valid [] e = tt
every_valid (x ∷ xs) e = (
  both_first (valid_name WellKnown x) (every (valid_name WellKnown) xs) e,
  every_valid xs (both_second (valid_name WellKnown x) (every (valid_name WellKnown) xs) e),
)

-- each name of a good list is a well-known name, and so is each that is added
added_valid : (image list : List ℕ) → good_list list ≡ true → Each Valid (added image list)
unfolding good_list good_names added
added_valid image list l =
    passing_each Valid (covered image) (listed list)
    (every_valid (listed list)
    (both_second (whole list) (every (valid_name WellKnown) (listed list)) (both_first (good_names list) (distinct (λ x. true) same (listed list)) l)))

-- ---- the copies

-- the copy stands in the strings
record Stands (strings : List ℕ) (c : Copy) : Type 0 where
  text : take (length c.name) (drop c.offset strings) ≡ c.name
  inside : c.offset + length c.name ≤ length strings
  valid : Valid c.name

-- names stand one right behind the other
copies_stand : (xs : List (List ℕ)) → Each Valid xs → (front strings : List ℕ) (o : ℕ) → length front ≡ o → strings ≡ front ++ joined xs
    → Each (Stands strings) (copies_from o xs)
unfolding cells copies_from
copies_stand [] v front strings o e q = tt
copies_stand (x ∷ xs) v front strings o e q = (
  record {
    text = rw (q, drop_at front (x ++ joined xs) o e) (take_at x (joined xs) (length x) refl);
    inside = rw q (omega (arith, length-append front (x ++ joined xs), length-append x (joined xs)));
    valid = v.0;
  },
  copies_stand xs v.1 (front ++ x) strings (o + length x) (length-append front x ∙ omega arith) (q ∙ sym (append_assoc front x (joined xs))),
)

-- ---- the strings of the new image

-- the string that a copy is
abbrev pub copy_span : Copy → Span
copy_span c = record { offset = c.offset; len = length c.name }

-- it lies inside the new image, is the copy's name, and that is a well-known one
pub record Added (image list : List ℕ) (c : Copy) : Type 0 where
  pub text : text_of (converted image list) (copy_span c) ≡ c.name
  pub inside : Inside (converted image list) (copy_span c)
  pub valid : valid_name WellKnown c.name ≡ true

module _ (image list : List ℕ) (h : GoodImageHeader image) (s : Small image list) where
  abbrev new : List ℕ
  new = converted image list

  -- the strings of the new image
  abbrev strings : List ℕ
  strings = drop (string_offset image) image ++ joined (added image list)

  text_from : (t : Span) → text_of new t ≡ take t.len (drop t.offset strings)
  text_from t =
      ap (take t.len) (sym (drop-drop t.offset (string_offset new) new) ∙ ap (drop t.offset) (strings_stand image list h s))

  -- a string of the old image lies inside the new one too, and says the same
  pub inside_kept : (t : Span) → Inside image t → Inside new t
  inside_kept t i = omega (arith, strings_start image list h s, new_long image list h)

  pub text_kept : (t : Span) → Inside image t → text_of new t ≡ text_of image t
  text_kept t i =
      text_from t
      ∙ part_before t.len t.offset (drop (string_offset image) image) (joined (added image list))
      (omega (arith, length-drop (string_offset image) image))
      ∙ ap (take t.len) (drop-drop t.offset (string_offset image) image)

  module _ (l : good_list list ≡ true) where
    stands_added : (c : Copy) → Stands strings c → Added image list c
    unfolding Valid
    stands_added c a =
        record {
          text = text_from (copy_span c) ∙ a.text;
          inside =
              omega (
                arith,
                a.inside,
                length-append (drop (string_offset image) image) (joined (added image list)),
                length-drop (string_offset image) image,
                strings_start image list h s,
                new_long image list h,
              );
          valid = a.valid;
        }

    pub texts_added : Each (Added image list) (copies image list)
    texts_added =
        each_map (Stands strings) (Added image list) stands_added (copies image list)
        (copies_stand (added image list) (added_valid image list l) (drop (string_offset image) image) strings (length image - string_offset image)
        (length-drop (string_offset image) image) refl)

    -- by position
    pub text_added : (d : Copy) (k : ℕ) → k < length (copies image list) → Added image list (get_or (copies image list) k d)
    text_added d k i = each_at (Added image list) d (copies image list) texts_added k i
