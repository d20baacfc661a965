-- The names that are added, written one behind the other.
use mathlib.Core.Path.{◌≡◌, refl, sym, ap, ◌∙◌}
use mathlib.Core.List.{List, [], ◌++◌, append_assoc, append-nil}
use Prim.Native.Nat.{ℕ, ◌+◌, ◌-◌, ◌≤◌, ◌<◌}
use native.Mathlib.Omega.{arith}
use lib.ListN.{length, get_or, take, drop, length-append, take-append-drop}
use borrow.Author.Rules.{rules}
use Rattle.wire.proofs.From.{next, past}
use Rattle.wire.proofs.Words.{put_at_lem}
use Rattle.tables.specs.Tables.{cells}
use Rattle.prefixes.specs.Converted.{joined}
use Rattle.lists.specs.Promises.{name_at, NameAt, NamesAt, names_at}
use Rattle.exacts.specs.Promises.{put}
use Rattle.exacts.proofs.Rows.{put_behind, put_long}

-- the names from k on, one behind the other
abbrev rest : List ℕ → List ℕ → ℕ → List ℕ
rest list starts k = joined (names_at list (drop k starts))

-- those below k are written
pub record Adding (room₀ : List ℕ) (at₀ : ℕ) (list starts room : List ℕ) (at k : ℕ) : Type 0 where
  pub inside : k ≤ length starts
  pub each : NamesAt list starts
  pub written : List ℕ
  pub all : joined (names_at list starts) ≡ written ++ rest list starts k
  pub ends : at ≡ at₀ + length written
  pub fits : at + length (rest list starts k) ≤ length room₀
  pub left : room ≡ put at₀ written room₀
  pub sized : length room ≡ length room₀

pub adding_begins : (room : List ℕ) (at : ℕ) (list starts : List ℕ) → at + length (joined (names_at list starts)) ≤ length room → NamesAt list starts
    → Adding room at list starts room at 0
adding_begins room at list starts f n =
    let z : at + 0 ≡ at = omega arith in
    record {
      inside = omega arith;
      each = n;
      written = [];
      all = refl;
      ends = sym z;
      fits = f;
      left = rw z (sym (take-append-drop at room));
      sized = refl;
    }

module _ {room₀ : List ℕ} {at₀ : ℕ} {list starts room : List ℕ} {at k : ℕ} (z : Adding room₀ at₀ list starts room at k) where
  pub adding_ends : length starts ≤ k → room ≡ put at₀ (joined (names_at list starts)) room₀
  unfolding cells
  adding_ends h = rw (z.all, past starts k h, append-nil z.written) z.left

  module _ (h : k < length starts) where
    pub adding_name : NameAt list (get_or starts k 0)
    adding_name = z.each k h

    module _ {name : List ℕ} (e : name ≡ name_at list (get_or starts k 0)) where
      rest_is : rest list starts k ≡ name ++ rest list starts (k + 1)
      unfolding cells
      rest_is = rw (next starts k h, e)

      rest_fits : at + length name + length (rest list starts (k + 1)) ≤ length room₀
      rest_fits = omega (arith, z.fits, ap length rest_is, length-append name (rest list starts (k + 1)))

      pub adding_fits : at + length name ≤ length room
      adding_fits = omega (arith, rest_fits, z.sized)

      pub adding_more : {y : List ℕ} → y ≡ name
          → Adding room₀ at₀ list starts (take at room ++ (y ++ drop (at + length name - at) (drop at room))) (at + length name) (k + 1)
      adding_more {y} w =
          let l : length (z.written ++ name) ≡ length z.written + length name = length-append z.written name in
          let s : at₀ + length z.written + length name ≤ length room₀ = omega (arith, rest_fits, z.ends) in
          let u : put at name room ≡ put at₀ (z.written ++ name) room₀
          = put_behind room₀ z.written name at₀ z.left z.ends (omega (arith, z.ends)) in
          rw (put_at_lem at (length name) room y, w, u)
          (record {
            inside = omega arith;
            each = z.each;
            written = z.written ++ name;
            all = z.all ∙ rw rest_is (sym (append_assoc z.written name (rest list starts (k + 1))));
            ends = omega (arith, z.ends);
            fits = rest_fits;
            left = refl;
            sized = put_long room₀ (z.written ++ name) at₀ (omega arith);
          })

pub ruleset adding = (adding_begins, adding_ends, adding_name, adding_fits, adding_more, rules)
