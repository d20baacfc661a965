-- The list of names, from a length byte on: its first name, and the names behind it.
use mathlib.Core.Path.{◌≡◌, refl, sym, ap, ◌∙◌}
use mathlib.Core.Bool.{Bool, true, false, not, ◌&&◌, ◌||◌, and-false}
use mathlib.Core.List.{List, [], ◌∷◌, ◌++◌}
use Prim.Native.Nat.{ℕ, zero, suc, ◌+◌, ◌-◌, ◌*◌, ◌^◌, ◌≤◌, ◌<◌}
use native.Mathlib.Omega.{arith}
use lib.Dec.{leb, eqb}
use lib.ListN.{length, get_or, take, drop, length-drop, length-append}
use mir.Syntax.{w64}
use mir.Val.{Fits}
use lib.Seq.{take_all, length-take-le, take-append_seam, drop-append_seam}
use borrow.Author.Rules.{rules}
use borrow.Author.Tests.{le-leb, lt-leb, leb-true, leb-false, eq-eqb, ne_eqb}
use Rattle.wire.specs.Bytes.{same}
use Rattle.wire.specs.Lists.{every, any, distinct}
use Rattle.wire.proofs.From.{next, past, skip}
use Rattle.wire.proofs.Texts.{both_first, both_second}
use Rattle.wire.proofs.Tests.{by_test}
use Rattle.wire.proofs.Words.{Octets, cut_at}
use Rattle.names.specs.Names.{valid_name}
use Rattle.names.specs.declared.Form.TheVariants.{WellKnown}
use Rattle.prefixes.specs.Names.{Entry, first_entries, entries, listed, whole, good_names, good_list}
use Rattle.lists.specs.Promises.{name_at, First}
use Rattle.std.proofs.Common.{true≢false}

-- ---- a list has no more entries than bytes, so that counting further finds no more

entries_more : (n m : ℕ) (l : List ℕ) → length l ≤ n → length l ≤ m → first_entries n l ≡ first_entries m l
unfolding first_entries
entries_more zero zero l h k = refl
entries_more zero (suc m) [] h k = refl
entries_more zero (suc m) (x ∷ l) h k = absurd (omega arith)
entries_more (suc n) zero [] h k = refl
entries_more (suc n) zero (x ∷ l) h k = absurd (omega arith)
entries_more (suc n) (suc m) [] h k = refl
entries_more (suc n) (suc m) (x ∷ l) h k =
    ap (λ (z : List Entry). record { size = x; name = take x l } ∷ z)
    (entries_more n m (drop x l) (omega (arith, length-drop x l)) (omega (arith, length-drop x l)))

entries_first : (x : ℕ) (l : List ℕ) → entries (x ∷ l) ≡ record { size = x; name = take x l } ∷ entries (drop x l)
unfolding entries first_entries
entries_first x l =
    ap (λ (z : List Entry). record { size = x; name = take x l } ∷ z)
    (entries_more (length l) (length (drop x l)) (drop x l) (omega (arith, length-drop x l)) (omega arith))

listed_first : (x : ℕ) (l : List ℕ) → listed (x ∷ l) ≡ take x l ∷ listed (drop x l)
unfolding listed
listed_first x l = rw (entries_first x l)

-- a name is cut where fewer bytes are left than its length byte says
uncut_is : (x : ℕ) (l : List ℕ) → eqb (length (take x l)) x ≡ leb x (length l)
uncut_is x l =
    by_test (leb x (length l)) (λ t. rw t (eq-eqb (length (take x l)) x (length-take-le x l (leb-true x (length l) t))))
    (λ f.
    let k : length l < x = leb-false x (length l) f in
    rw (f, take_all x l (omega arith)) (ne_eqb (length l) x (λ e. omega arith)))

whole_first : (x : ℕ) (l : List ℕ) → whole (x ∷ l) ≡ leb x (length l) && whole (drop x l)
unfolding whole
whole_first x l = rw (entries_first x l, uncut_is x l)

-- ---- the name whose length byte stands at `at`

module _ (list : List ℕ) (at : ℕ) where
  -- as the code cuts it out
  pub name_cut : take (at + 1 + get_or list at 0 - (at + 1)) (drop (at + 1) list) ≡ name_at list at
  name_cut = cut_at (at + 1) (get_or list at 0) list

  module _ (h : at < length list) where
    pub listed_at : listed (drop at list) ≡ name_at list at ∷ listed (drop (at + 1 + get_or list at 0) list)
    listed_at =
        ap listed (next list at h)
        ∙ listed_first (get_or list at 0) (drop (at + 1) list)
        ∙ ap (λ (z : List ℕ). name_at list at ∷ listed z) (skip list (at + 1) (get_or list at 0) (at + 1 + get_or list at 0) refl)

    whole_at : whole (drop at list) ≡ leb (get_or list at 0) (length (drop (at + 1) list)) && whole (drop (at + 1 + get_or list at 0) list)
    whole_at =
        ap whole (next list at h)
        ∙ whole_first (get_or list at 0) (drop (at + 1) list)
        ∙ ap (λ (z : List ℕ). leb (get_or list at 0) (length (drop (at + 1) list)) && whole z)
        (skip list (at + 1) (get_or list at 0) (at + 1 + get_or list at 0) refl)

-- the end of the name does not wrap, whether it is cut or not
module _ (list : List ℕ) (at : ℕ) (o : Octets list) where
  pub size_fits : Fits w64 (get_or list at 0)
  size_fits = record { fits = omega (arith, o at) }

  pub end_fits : at < length list → length list * 1 < 2 ^ 63 → Fits w64 (at + 1 + get_or list at 0)
  end_fits h s = record { fits = omega (arith, o at) }

pub ruleset sizes = (size_fits, end_fits, rules)

-- no name is left
pub listed_past : (list : List ℕ) (at : ℕ) → length list ≤ at → listed (drop at list) ≡ []
unfolding listed entries first_entries
listed_past list at h = ap listed (past list at h)

-- ---- the names from `at` on are whole

pub record Behind (list : List ℕ) (at : ℕ) : Type 0 where
  pub inside : at ≤ length list
  pub uncut : whole (drop at list) ≡ true

pub behind_begins : {list : List ℕ} → whole list ≡ true → Behind list 0
behind_begins w = record { inside = omega arith; uncut = w }

module _ {list : List ℕ} {at : ℕ} (b : Behind list at) (h : at < length list) where
  both_whole : leb (get_or list at 0) (length (drop (at + 1) list)) && whole (drop (at + 1 + get_or list at 0) list) ≡ true
  both_whole = sym (whole_at list at h) ∙ b.uncut

  pub name_ends : at + 1 + get_or list at 0 ≤ length list
  name_ends =
      let n = get_or list at 0 in
      let k = length (drop (at + 1) list) in
      omega (arith, leb-true n k (both_first (leb n k) (whole (drop (at + 1 + n) list)) both_whole), length-drop (at + 1) list)

  pub behind_next : Behind list (at + 1 + get_or list at 0)
  behind_next =
      let n = get_or list at 0 in
      record {
        inside = name_ends;
        uncut = both_second (leb n (length (drop (at + 1) list))) (whole (drop (at + 1 + n) list)) both_whole;
      }

-- ---- the first name of a list

-- a list whose first name is cut
pub cut_first : {list : List ℕ} (x : ℕ) (l : List ℕ) → list ≡ x ∷ l → length l < x → whole list ≡ true → list ≡ []
cut_first {list} x l e k w =
    let f : whole list ≡ false = ap whole e ∙ whole_first x l ∙ rw (lt-leb x (length l) k) in
    absurd (true≢false (sym w ∙ f))

module _ {list name rest : List ℕ} (f : First list name rest) where
  pub listed_split : listed list ≡ name ∷ listed rest
  listed_split = ap listed f.is ∙ listed_first (length name) (name ++ rest) ∙ rw (take-append_seam name rest, drop-append_seam name rest)

  pub whole_split : whole list ≡ whole rest
  whole_split =
      ap whole f.is
      ∙ whole_first (length name) (name ++ rest)
      ∙ rw (le-leb (length name) (length (name ++ rest)) (omega (arith, length-append name rest)), drop-append_seam name rest)

  pub length_split : length list ≡ 1 + length name + length rest
  length_split = ap length f.is ∙ omega (arith, length-append name rest)

  pub shorter : length rest < length list
  shorter = omega (arith, length_split)

-- ---- the loop that tests each name

-- what is left decides
pub record Naming (list left : List ℕ) : Type 0 where
  pub decides : good_names list ≡ good_names left

pub naming_begins : {list : List ℕ} → Naming list list
naming_begins = record { decides = refl }

module _ {left name rest : List ℕ} (f : First left name rest) where
  good_split : (b : Bool) → valid_name WellKnown name ≡ b → good_names left ≡ b && good_names rest
  unfolding good_names
  good_split true e = rw (whole_split f, listed_split f, e)
  good_split false e = rw (listed_split f, e, and-false)

  module _ {list : List ℕ} (g : Naming list left) {r : Bool} (e : r ≡ valid_name WellKnown name) where
    pub naming_bad : r ≡ false → false ≡ good_names list
    naming_bad q = sym (g.decides ∙ good_split false (sym e ∙ q))

    pub naming_next : r ≡ true → Naming list rest
    naming_next q = record { decides = g.decides ∙ good_split true (sym e ∙ q) }

good_none : good_names [] ≡ true
unfolding good_names whole listed entries first_entries
good_none = refl

good_cut : (list : List ℕ) → whole list ≡ false → good_names list ≡ false
unfolding good_names
good_cut list w = rw w

-- nothing is left, or the first name of what is left is cut
good_left : (left : List ℕ) → (whole left ≡ true → left ≡ []) → eqb (length left) 0 ≡ good_names left
good_left [] n = sym good_none
good_left (x ∷ l) n =
    by_test (whole (x ∷ l)) (λ t. absurd (omega (arith, ap length (n t))))
    (λ w. ne_eqb (suc (length l)) 0 (λ e. omega arith) ∙ sym (good_cut (x ∷ l) w))

pub naming_ends : {list left : List ℕ} → Naming list left → (whole left ≡ true → left ≡ []) → eqb (length left) 0 ≡ good_names list
naming_ends {list} {left} g n = good_left left n ∙ sym g.decides

pub ruleset naming = (naming_begins, naming_bad, naming_next, naming_ends, shorter, rules)

-- ---- the loop that looks for a name

-- what is left decides
pub record Seeking (list name left : List ℕ) : Type 0 where
  pub whole : whole left ≡ true
  pub decides : any (same name) (listed list) ≡ any (same name) (listed left)

pub seeking_begins : {list name : List ℕ} → whole list ≡ true → Seeking list name list
seeking_begins w = record { whole = w; decides = refl }

listed_none : {list : List ℕ} → list ≡ [] → listed list ≡ []
unfolding listed entries first_entries
listed_none e = ap listed e

module _ {list name left : List ℕ} (s : Seeking list name left) where
  pub seeking_ends : (whole left ≡ true → left ≡ []) → false ≡ any (same name) (listed list)
  seeking_ends n = sym (s.decides ∙ ap (any (same name)) (listed_none (n s.whole)))

  module _ {other rest : List ℕ} (f : First left other rest) {r : Bool} (e : r ≡ same name other) where
    any_split : {b : Bool} → r ≡ b → any (same name) (listed list) ≡ b || any (same name) (listed rest)
    any_split q = s.decides ∙ rw (listed_split f, ← e, q)

    pub seeking_found : r ≡ true → true ≡ any (same name) (listed list)
    seeking_found q = sym (any_split q)

    pub seeking_next : r ≡ false → Seeking list name rest
    seeking_next q = record { whole = sym (whole_split f) ∙ s.whole; decides = any_split q }

pub ruleset seeking = (seeking_begins, seeking_ends, seeking_found, seeking_next, shorter, rules)

-- ---- the loop that looks for each name behind it

abbrev apart : List (List ℕ) → Bool
apart names = distinct (λ x. true) same names

-- what is left decides
pub record Parting (list left : List ℕ) : Type 0 where
  pub whole : whole left ≡ true
  pub decides : apart (listed list) ≡ apart (listed left)

pub parting_begins : {list : List ℕ} → whole list ≡ true → Parting list list
parting_begins w = record { whole = w; decides = refl }

module _ {list left : List ℕ} (p : Parting list left) where
  pub parting_ends : (whole left ≡ true → left ≡ []) → true ≡ distinct (λ x. true) same (listed list)
  unfolding distinct
  parting_ends n = sym (p.decides ∙ ap apart (listed_none (n p.whole)))

  module _ {name rest : List ℕ} (f : First left name rest) where
    pub parting_whole : whole rest ≡ true
    parting_whole = sym (whole_split f) ∙ p.whole

    module _ {r : Bool} (e : r ≡ any (same name) (listed rest)) where
      apart_split : {b : Bool} → r ≡ b → apart (listed list) ≡ not b && apart (listed rest)
      unfolding distinct
      apart_split q = p.decides ∙ rw (listed_split f, ← e, q)

      pub parting_found : r ≡ true → false ≡ distinct (λ x. true) same (listed list)
      parting_found q = sym (apart_split q)

      pub parting_next : r ≡ false → Parting list rest
      parting_next q = record { whole = parting_whole; decides = apart_split q }

pub ruleset parting = (parting_begins, parting_ends, parting_whole, parting_found, parting_next, shorter, rules)

-- ---- the whole list

module _ (list : List ℕ) {r : Bool} (e : r ≡ good_names list) where
  pub names_whole : r ≡ true → whole list ≡ true
  unfolding good_names
  names_whole t = both_first (whole list) (every (valid_name WellKnown) (listed list)) (sym e ∙ t)

  pub names_bad : r ≡ false → false ≡ good_list list
  unfolding good_list
  names_bad f = rw (← e, f)

  pub names_good : r ≡ true → {d : Bool} → d ≡ distinct (λ x. true) same (listed list) → d ≡ good_list list
  unfolding good_list
  names_good t q = q ∙ rw (← e, t)

pub ruleset testing = (names_whole, names_bad, names_good, rules)
