-- The loop that gathers the names to be added: those before `at` are told, and those from `at` on are to come.
use mathlib.Core.Path.{◌≡◌, refl, sym, ap, ◌∙◌}
use mathlib.Core.Logic.{⊎_elim}
use mathlib.Core.Bool.{true, false}
use mathlib.Core.List.{List, [], ◌∷◌, ◌++◌, append_assoc, append-nil}
use Prim.Native.Nat.{ℕ, ◌+◌, ◌-◌, ◌*◌, ◌^◌, ◌≤◌, ◌<◌}
use native.Mathlib.Nat.{eq-or-lt_of_le}
use native.Mathlib.Numerals.{add-one}
use native.Mathlib.Omega.{arith}
use lib.ListN.{length, get_or, take, drop, set, length-append, length-drop, length-set, get_or-append}
use lib.Seq.{length-take-le, take-suc-set, get_or-append_seam}
use mir.Syntax.{w64}
use mir.Val.{Fits}
use borrow.Author.Tests.{lt-ltb, le-ltb}
use Rattle.tables.specs.Tables.{cells}
use Rattle.image.specs.Image.{rule_count}
use Rattle.image.specs.Good.{no_prefix}
use Rattle.image.specs.declared.Section.TheVariants.{Own}
use Rattle.prefixes.specs.Names.{listed, whole}
use Rattle.prefixes.specs.Copies.{passing, covers, covered, added}
use Rattle.prefixes.specs.Converted.{joined, new_owns}
use Rattle.retire.specs.Counting.{count_below}
use Rattle.lists.specs.Promises.{name_at, NameAt, NamesAt, names_at}
use Rattle.retire.specs.Promises.{Gathers}
use Rattle.lists.proofs.Lists.{Behind, behind_begins, behind_next, name_ends, name_cut, listed_at, listed_past, sizes}
use Rattle.retire.proofs.Counting.{total, rules_of, covered_counted, owns_counted}

-- ---- one start more

names_at_snoc : (list xs : List ℕ) (a : ℕ) → names_at list (xs ++ (a ∷ [])) ≡ names_at list xs ++ (name_at list a ∷ [])
names_at_snoc list [] a = refl
names_at_snoc list (x ∷ xs) a = ap (λ (z : List (List ℕ)). name_at list x ∷ z) (names_at_snoc list xs a)

each_snoc : (list xs : List ℕ) (a : ℕ) → NamesAt list xs → NameAt list a → NamesAt list (xs ++ (a ∷ []))
each_snoc list xs a e n k h =
    ⊎_elim
    (λ (i : k ≡ length xs). rw (i, get_or-append_seam xs a [] 0) n)
    (λ (l : k < length xs). rw (get_or-append xs (a ∷ []) 0 k l) (e k l))
    (eq-or-lt_of_le (omega (arith, length-append xs (a ∷ []))))

-- ---- the loop

-- the names from `at` on that are added
abbrev to_come : List ℕ → List ℕ → ℕ → List (List ℕ)
to_come image list at = passing (covered image) (listed (drop at list))

pub record Gathering (image list starts : List ℕ) (names bytes rules at : ℕ) : Type 0 where
  pub behind : Behind list at
  pub long : length starts ≡ 256
  pub some : names ≤ rules
  pub few : rules ≤ 256
  pub small : bytes ≤ at
  pub each : NamesAt list (take names starts)
  pub named : added image list ≡ names_at list (take names starts) ++ to_come image list at
  pub sized : length (joined (added image list)) ≡ bytes + length (joined (to_come image list at))
  pub owns : length (new_owns image list) ≡ rules + total (rules_of image) (listed (drop at list))

pub gathering_begins : {image list starts : List ℕ} {rules : ℕ} → whole list ≡ true → length starts ≡ 256
    → rules ≡ count_below (no_prefix image) (rule_count Own image) → rules ≤ 256 → Gathering image list starts 0 0 rules 0
unfolding added
gathering_begins {image} {list} {starts} w l e f =
    record {
      behind = behind_begins w;
      long = l;
      some = omega arith;
      few = f;
      small = omega arith;
      each = λ k h. absurd (omega arith);
      named = refl;
      sized = omega arith;
      owns = owns_counted image list ∙ rw e;
    }

module _ {image list starts : List ℕ} {names bytes rules at : ℕ} (g : Gathering image list starts names bytes rules at) where
  pub gathering_ends : length list ≤ at → Gathers image list (record { names = names; bytes = bytes; rules = rules }) starts
  unfolding passing cells total
  gathering_ends h =
      let z = listed_past list at h in
      record {
        long = g.long;
        many = λ m. absurd (omega (arith, g.few));
        few =
            λ m.
            record {
              rules = omega (arith, rw z at g.owns);
              some = omega (arith, g.some, g.few);
              names = sym (rw (z, append-nil) at g.named);
              each = g.each;
              bytes = omega (arith, rw z at g.sized);
              small = omega (arith, g.small, g.behind.inside);
            };
      }

  module _ (h : at < length list) where
    pub gathering_inside : at + 1 + get_or list at 0 ≤ length list
    gathering_inside = name_ends g.behind h

    pub gathering_bytes : length list * 1 < 2 ^ 63 → Fits w64 (bytes + (at + 1 + get_or list at 0 - at - 1))
    gathering_bytes k = record { fits = omega (arith, g.small, gathering_inside) }

    -- where the next name begins
    abbrev to : ℕ
    to = at + 1 + get_or list at 0

    module _ {more : ℕ}
        (q : more ≡ count_below (λ i. covers image i (take (at + 1 + get_or list at 0 - (at + 1)) (drop (at + 1) list))) (rule_count Own image)) where
      more_is : rules_of image (name_at list at) ≡ more
      more_is = sym (q ∙ ap (rules_of image) (name_cut list at))

      owns_next : length (new_owns image list) ≡ rules + more + total (rules_of image) (listed (drop to list))
      unfolding total
      owns_next = omega (arith, rw (listed_at list at h) at g.owns, more_is)

      pub gathering_many : 256 < rules + more → Gathers image list (record { names = names; bytes = bytes; rules = rules + more }) starts
      gathering_many m = record { long = g.long; many = λ k. omega (arith, owns_next); few = λ k. absurd (omega arith) }

      module _ (f : rules + more ≤ 256) where
        uncovered : more ≤ 0 → to_come image list at ≡ to_come image list to
        unfolding passing
        uncovered z =
            let e : covered image (name_at list at) ≡ false = covered_counted image (name_at list at) ∙ rw (more_is, le-ltb 0 more z) in
            rw (listed_at list at h, e)

        pub gathering_skip : more ≤ 0 → Gathering image list starts names bytes (rules + more) (at + 1 + get_or list at 0)
        gathering_skip z =
            record {
              behind = behind_next g.behind h;
              long = g.long;
              some = omega (arith, g.some);
              few = f;
              small = omega (arith, g.small);
              each = g.each;
              named = rw (← uncovered z) g.named;
              sized = rw (← uncovered z) g.sized;
              owns = owns_next;
            }

        module _ (s : 0 < more) where
          is_covered : to_come image list at ≡ name_at list at ∷ to_come image list to
          unfolding passing
          is_covered =
              let e : covered image (name_at list at) ≡ true = covered_counted image (name_at list at) ∙ rw (more_is, lt-ltb 0 more s) in
              rw (listed_at list at h, e)

          started : take (names + 1) (set starts names at) ≡ take names starts ++ (at ∷ [])
          started = rw (add-one names) (take-suc-set starts names at (omega (arith, g.some, g.long)))

          pub gathering_add : Gathering image list (set starts names at) (names + 1) (bytes + (at + 1 + get_or list at 0 - at - 1)) (rules + more)
              (at + 1 + get_or list at 0)
          unfolding cells
          gathering_add =
              let n = get_or list at 0 in
              let name = name_at list at in
              let l : length name ≡ n = length-take-le n (drop (at + 1) list) (omega (arith, gathering_inside, length-drop (at + 1) list)) in
              let rest = to_come image list to in
              record {
                behind = behind_next g.behind h;
                long = length-set starts names at ∙ g.long;
                some = omega (arith, g.some);
                few = f;
                small = omega (arith, g.small);
                each = rw started (each_snoc list (take names starts) at g.each (record { ends = gathering_inside }));
                named =
                    g.named
                    ∙ ap (λ (z : List (List ℕ)). names_at list (take names starts) ++ z) is_covered
                    ∙ sym (append_assoc (names_at list (take names starts)) (name ∷ []) rest)
                    ∙ ap (λ (z : List (List ℕ)). z ++ rest) (sym (names_at_snoc list (take names starts) at) ∙ ap (names_at list) (sym started));
                sized = omega (arith, rw is_covered at g.sized, length-append name (joined rest), l);
                owns = owns_next;
              }

pub ruleset gathering = (gathering_begins, gathering_ends, gathering_inside, gathering_bytes, gathering_many, gathering_skip, gathering_add, sizes)
