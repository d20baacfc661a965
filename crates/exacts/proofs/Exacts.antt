-- The exact rules that a prefix rule becomes, written one behind the other.
use mathlib.Core.Path.{◌≡◌, refl, sym, ap, ◌∙◌}
use mathlib.Core.Bool.{Bool, true, false}
use mathlib.Core.List.{List, [], ◌∷◌, ◌++◌, append_assoc, append-nil}
use Prim.Native.Nat.{ℕ, ◌+◌, ◌*◌, ◌≤◌, ◌<◌}
use native.Mathlib.Omega.{arith}
use lib.ListN.{length, get_or, drop, length-append}
use borrow.Author.Rules.{rules}
use Rattle.wire.proofs.From.{next, past}
use Rattle.names.specs.Namespace.{in_namespace}
use Rattle.tables.specs.Tables.{cells}
use Rattle.image.specs.Image.{rule_size}
use Rattle.image.specs.declared.Section.TheVariants.{Own}
use Rattle.prefixes.specs.Copies.{passing, copies_from}
use Rattle.prefixes.specs.Converted.{exact, exacts, joined}
use Rattle.lists.specs.Promises.{name_at, NameAt, NamesAt, names_at}
use Rattle.exacts.specs.Promises.{put, Puts, ExactAt, Small, ExactsAt}
use Rattle.exacts.proofs.Rows.{puts_none, puts_one, puts_long, puts_behind}
use Rattle.exacts.proofs.Exact.{exact_long}

-- the rules for the names from k on, whose copies begin at `offset`
abbrev left : List ℕ → List ℕ → List ℕ → List ℕ → ℕ → ℕ → List (List ℕ)
left rule prefix list starts offset k = exacts rule prefix (copies_from offset (names_at list (drop k starts)))

-- those for the names below k are made
pub record Making (room₀ : List ℕ) (at₀ : ℕ) (rule prefix : List ℕ) (offset₀ : ℕ) (list starts room : List ℕ) (at offset k : ℕ) : Type 0 where
  pub inside : k ≤ length starts
  pub ruled : length rule ≡ rule_size Own
  pub each : NamesAt list starts
  pub small : Small offset list (drop k starts)
  pub made : List (List ℕ)
  pub all : exacts rule prefix (copies_from offset₀ (names_at list starts)) ≡ made ++ left rule prefix list starts offset k
  pub puts : Puts made at₀ room₀ at room
  pub fits : at + rule_size Own * length (left rule prefix list starts offset k) ≤ length room₀
  pub sized : length room ≡ length room₀

pub making_begins : (room : List ℕ) (at : ℕ) (rule prefix : List ℕ) (offset : ℕ) (list starts : List ℕ) → ExactsAt room at rule prefix offset list starts
    → Making room at rule prefix offset list starts room at offset 0
making_begins room at rule prefix offset list starts r =
    record {
      inside = omega arith;
      ruled = r.ruled;
      each = r.each;
      small = r.small;
      made = [];
      all = refl;
      puts = puts_none room at;
      fits = r.fits;
      sized = refl;
    }

module _ {room₀ : List ℕ} {at₀ : ℕ} {rule prefix : List ℕ} {offset₀ : ℕ} {list starts room : List ℕ} {at offset k : ℕ}
    (z : Making room₀ at₀ rule prefix offset₀ list starts room at offset k) where
  pub making_ends : length starts ≤ k → Puts (exacts rule prefix (copies_from offset₀ (names_at list starts))) at₀ room₀ at room
  unfolding exacts copies_from passing
  making_ends h = rw (z.all, past starts k h, append-nil z.made) z.puts

  module _ (h : k < length starts) where
    pub making_name : NameAt list (get_or starts k 0)
    making_name = z.each k h

    module _ {name : List ℕ} (e : name ≡ name_at list (get_or starts k 0)) where
      names_left : names_at list (drop k starts) ≡ name ∷ names_at list (drop (k + 1) starts)
      names_left = rw (next starts k h, e)

      small_left : offset + length name + length (joined (names_at list (drop (k + 1) starts))) ≤ 131072
      unfolding cells
      small_left =
          let s : offset + length (joined (names_at list (drop k starts))) ≤ 131072 = z.small in
          omega (arith, ap (λ (l : List (List ℕ)). length (joined l)) names_left, length-append name (joined (names_at list (drop (k + 1) starts))))

      module _ (b : Bool) (q : b ≡ in_namespace prefix name) where
        other_left : b ≡ false → left rule prefix list starts offset k ≡ left rule prefix list starts (offset + length name) (k + 1)
        unfolding exacts copies_from passing
        other_left f = rw (names_left, ← q, f)

        covered_left : b ≡ true
            → left rule prefix list starts offset k ≡ exact rule offset (length name) ∷ left rule prefix list starts (offset + length name) (k + 1)
        unfolding exacts copies_from passing
        covered_left t = rw (names_left, ← q, t)

        pub making_other : b ≡ false → Making room₀ at₀ rule prefix offset₀ list starts room at (offset + length name) (k + 1)
        making_other f =
            record {
              inside = omega arith;
              ruled = z.ruled;
              each = z.each;
              small = small_left;
              made = z.made;
              all = z.all ∙ ap (λ (l : List (List ℕ)). z.made ++ l) (other_left f);
              puts = z.puts;
              fits = rw (other_left f) at z.fits;
              sized = z.sized;
            }

        module _ (t : b ≡ true) where
          room_left : at + rule_size Own * (1 + length (left rule prefix list starts (offset + length name) (k + 1))) ≤ length room₀
          room_left = omega (arith, z.fits, ap length (covered_left t))

          pub making_room : ExactAt room at rule offset (length name)
          making_room =
              let s : length room ≡ length room₀ = z.sized in
              record {
                fits = omega (arith, room_left);
                ruled = z.ruled;
                offset_small = omega (arith, small_left);
                len_small = omega (arith, small_left);
              }

          pub making_more : {u : List ℕ} → u ≡ put at (exact rule offset (length name)) room
              → Making room₀ at₀ rule prefix offset₀ list starts u (at + rule_size Own) (offset + length name) (k + 1)
          making_more {u} w =
              let x = exact rule offset (length name) in
              let rest = left rule prefix list starts (offset + length name) (k + 1) in
              let s : length room ≡ length room₀ = z.sized in
              let p : Puts (x ∷ []) at room (at + rule_size Own) u = puts_one room x u at (exact_long rule z.ruled offset (length name)) w in
              record {
                inside = omega arith;
                ruled = z.ruled;
                each = z.each;
                small = small_left;
                made = z.made ++ (x ∷ []);
                all = z.all ∙ ap (λ (l : List (List ℕ)). z.made ++ l) (covered_left t) ∙ sym (append_assoc z.made (x ∷ []) rest);
                puts = puts_behind z.puts p (omega (arith, room_left));
                fits = omega (arith, room_left);
                sized = puts_long p (omega (arith, room_left)) ∙ s;
              }

pub ruleset making = (making_begins, making_ends, making_name, making_other, making_room, making_more, rules)
