-- A rule's name among those that the other party owns: a law for each way through the search of the cells.
use mathlib.Core.Path.{◌≡◌, sym, ap, ◌∙◌}
use mathlib.Core.Bool.{Bool, true, false}
use mathlib.Core.List.{List, [], ◌∷◌, ◌++◌}
use Prim.Native.Nat.{ℕ, ◌+◌, ◌-◌, ◌≤◌, ◌<◌}
use lib.ListN.{length, take, drop, get_or, length-append}
use native.Mathlib.Omega.{arith}
use Rattle.std.proofs.Math.Seq.{drop-append_seam, take-length}
use Rattle.std.proofs.lemmas.List.{take-append-le}
use borrow.Author.Tests.{ne_eqb}
use Rattle.wire.specs.Bytes.{same}
use Rattle.image.specs.Image.{name_span}
use Rattle.image.specs.Rules.{text_of, rule_from}
use Rattle.policy.specs.Names.{name_width, name_of, names_in, owns}
use Rattle.policy.specs.Matching.{name_fits}
use Rattle.policy.proofs.Cells.{Among, among_begins, among_here, among_more, among_ends}
use Rattle.matching.specs.Promises.{Cited}
use Rattle.matching.proofs.Fits.{cited_length}

-- the name of the rule at `at`, which is one of the names if it is among those in the cells that are left
pub record Seeking (image : List ℕ) (at : ℕ) (names name cells : List ℕ) : Type 0 where
  pub among : Among names name cells
  pub fits : name_fits image (rule_from image at) (names_in names) ≡ owns (names_in names) name

module _ {image : List ℕ} (at : ℕ) (names : List ℕ) (c : Cited image (at + name_span)) {name : List ℕ} (is : name ≡ text_of image (rule_from image at).name)
  where
    len : length name ≡ (rule_from image at).name.len
    len = ap length is ∙ cited_length image (at + name_span) c

    pub name_any : length name ≡ 0 → true ≡ name_fits image (rule_from image at) (names_in names)
    unfolding name_fits
    name_any e = sym (rw (← len, e))

    pub seeking_begins : (length name ≡ 0 → ⊥) → Seeking image at names name names
    unfolding name_fits
    seeking_begins n = record { among = among_begins; fits = rw (ne_eqb (rule_from image at).name.len 0 (λ k. n (len ∙ k)), ← is) }

-- the cell in front of others
front_is : (cell behind : List ℕ) → length cell ≡ name_width → get_or cell 0 0 < 256 → name_of (cell ++ behind) ≡ name_of cell
front_is [] behind l b = absurd (omega (arith, l))
front_is (x ∷ xs) behind l b = take-append-le x xs behind (omega (arith, l, b))

behind_is : (cell behind : List ℕ) → length cell ≡ name_width
    → take (length (cell ++ behind) - name_width) (drop name_width (cell ++ behind)) ≡ behind
behind_is cell behind l =
    let n : length (cell ++ behind) - name_width ≡ length behind = omega (arith, length-append cell behind, l) in
    rw (n, ← l, drop-append_seam cell behind) (take-length behind)

module _ {image : List ℕ} {at : ℕ} {names name cells : List ℕ} (u : Seeking image at names name cells) where
  pub seeking_ends : length cells < name_width → false ≡ name_fits image (rule_from image at) (names_in names)
  seeking_ends h = sym (u.fits ∙ among_ends u.among h)

  module _ (cell behind : List ℕ) (r : cells ≡ cell ++ behind) (l : length cell ≡ name_width) (f : get_or cell 0 0 < 256) {b : Bool}
      (e : b ≡ same (name_of cell) name) where
    room : name_width ≤ length cells
    room = omega (arith, ap length r, length-append cell behind, l)

    front : b ≡ same (name_of cells) name
    front = rw (r, front_is cell behind l f) e

    pub seeking_here : b ≡ true → true ≡ name_fits image (rule_from image at) (names_in names)
    seeking_here t = sym (u.fits ∙ among_here u.among room front t)

    pub seeking_more : b ≡ false → Seeking image at names name behind
    seeking_more t = record { among = rw (r, behind_is cell behind l) at (among_more u.among room front t); fits = u.fits }
