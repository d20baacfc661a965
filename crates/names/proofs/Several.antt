-- Two elements or more, as a scan sees them: from the first byte on, or from a byte before it.
use Rattle.std.proofs.Common.{◌≡◌, refl, sym, ap, ◌∙◌, Bool, true, false, not, ◌&&◌, List, ◌∷◌, ℕ, leb, eqb, length}
use mathlib.Core.Bool.{and-true, and-false, or-true, or-false}
use Rattle.wire.specs.Lists.{every}
use Rattle.wire.specs.Bytes.{byte}
use Rattle.wire.proofs.Texts.{both_first, both_second}
use Rattle.names.specs.declared.Form.{Form}
use Rattle.names.specs.Names.{digit, leads, separator, character, pieces, elements, two_or_more}
use Rattle.names.specs.Classes.{others, dot_bit, barred}
use Rattle.names.specs.Scan.{clear, all_bits, spaced, Walks}
use Rattle.names.proofs.Lookup.{agreed}
use Rattle.names.proofs.Follow.{many, high_of, cleared, cleared_is}
use Rattle.names.proofs.Near.{listed, follow, last_of}
use Rattle.names.proofs.Scanned.{seen_is, parted, no_dots, opens, apart_character, listed_scan}

-- ---- what the tests make of a text: o, its first byte opens an element; f, no byte follows a separator that may not; e, each is one of the form;
-- l, the last is no separator; p, there are two elements

cut_short : (o f e p : Bool) → o && (f && e && false) && p ≡ false
cut_short true true true p = refl
cut_short true true false p = refl
cut_short true false e p = refl
cut_short false f e p = refl

-- d: no dot behind the first byte
with_dots : (f e d : Bool) → f && e && true && not d ≡ f && e && not (f && d)
with_dots true true d = refl
with_dots true false d = refl
with_dots false e d = refl

-- c: the byte behind the colon is a character
with_colon : (c f e d : Bool) → c && true && (f && e && true) && not d ≡ f && (c && e) && not (f && d)
with_colon true true true d = refl
with_colon true true false d = refl
with_colon true false e d = refl
with_colon false true e d = refl
with_colon false false e d = refl

-- the bits that a form bars are some
bars : (form : Form) → clear (barred form) all_bits ≡ false
bars form = agreed (λ f k. clear (barred f) all_bits) (λ f k. false) refl form others

-- ---- two elements or more

pub elements_listed : (form : Form) (s : List ℕ) → many form ≡ true → elements form s ≡ listed form s
unfolding listed
elements_listed form s h = sym (rw (h, and-true (elements form s)))

module _ (form : Form) (x : ℕ) (s : List ℕ) (h : many form ≡ true) where
  two_scan : two_or_more form (x ∷ s)
      ≡ opens form x && (follow (high_of form) x s && every (cleared form) s && not (eqb (last_of x s) (separator form)))
      && leb 2 (length (pieces (separator form) (x ∷ s)))
  two_scan =
      ap (λ (t : Bool). t && leb 2 (length (pieces (separator form) (x ∷ s)))) (elements_listed form (x ∷ s) h ∙ listed_scan form x s)

  pub ends_badly : eqb (last_of x s) (separator form) ≡ true → two_or_more form (x ∷ s) ≡ false
  ends_badly e =
      two_scan ∙ rw e
      (cut_short (opens form x) (follow (high_of form) x s) (every (cleared form) s) (leb 2 (length (pieces (separator form) (x ∷ s)))))

  pub opens_badly : opens form x ≡ false → two_or_more form (x ∷ s) ≡ false
  opens_badly e = two_scan ∙ rw e

  module _ (dot : separator form ≡ byte ".") (l : eqb (last_of x s) (separator form) ≡ false) {w : ℕ} where
    -- the scan from the first byte on
    pub two_seen : character form x && not (digit x) ≡ true → Walks (high_of form) (x ∷ s) w
        → clear (barred form) w && not (clear dot_bit w) ≡ two_or_more form (x ∷ s)
    two_seen o z =
        let c = both_first (character form x) (not (digit x)) o in
        let n = both_second (character form x) (not (digit x)) o in
        rw (seen_is z (barred form) (bars form), seen_is z dot_bit refl, no_dots (separator form) dot s)
        (sym (with_dots (follow (high_of form) x s) (every (cleared form) s) (every (λ b. not (eqb b (separator form))) s))
        ∙ sym (two_scan ∙ rw (c, n, or-true (leads form), l, parted (separator form) (x ∷ s), apart_character form x c)))

    -- the scan from a byte before it on, which is no separator
    pub behind_seen : (p : ℕ) → spaced (high_of form) p x ≡ true → leads form ≡ true → eqb x (separator form) ≡ false → Walks (high_of form) (p ∷ x ∷ s) w
        → clear (barred form) w && not (clear dot_bit w) ≡ two_or_more form (x ∷ s)
    unfolding follow
    behind_seen p a le n z =
        let c : cleared form x ≡ character form x = cleared_is form x ∙ rw (n, and-false (many form), or-false (character form x)) in
        let f = follow (high_of form) x s in
        let e = every (cleared form) s in
        let d = every (λ b. not (eqb b (separator form))) s in
        let seen : clear (barred form) w && not (clear dot_bit w) ≡ f && (character form x && e) && not (f && d) =
        rw (seen_is z (barred form) (bars form), seen_is z dot_bit refl, no_dots (separator form) dot (x ∷ s), a, c, n) in
        seen ∙ sym (with_colon (character form x) f e d) ∙ sym (two_scan ∙ rw (le, l, parted (separator form) (x ∷ s), n))
