-- Values that hold no other value, by the tests that the code makes.
use Rattle.std.specs.Prelude.{Option, Some, None}
use mathlib.Core.Path.{◌≡◌, refl, subst}
use mathlib.Core.Bool.{Bool, true, false, cond, ◌&&◌}
use mathlib.Core.List.{List}
use Prim.Native.Nat.{ℕ, ◌+◌, ◌-◌, ◌≤◌, ◌<◌}
use native.Mathlib.Omega.{arith}
use lib.Dec.{leb, ltb, eqb}
use lib.ListN.{length, take, drop, get_or}
use borrow.Author.Tests.{le-leb, lt-leb, leb-true, ltb-true}
use Rattle.wire.specs.Bytes.{all_zero}
use Rattle.wire.specs.Words.{word_at}
use Rattle.wire.specs.declared.Order.{Order}
use Rattle.wire.proofs.Texts.{both_first}
use Rattle.names.specs.Names.{valid_name}
use Rattle.names.specs.declared.Form.TheVariants as form
use Rattle.signature.specs.Signature.{valid_signature}
use Rattle.utf8.specs.Utf8.{valid_utf_8}
use Rattle.types.specs.Letters.{align_of}
use Rattle.types.proofs.Letters.{align_some}
use Rattle.basics.specs.Values.{round_up, padded, number_at, boolean_at, text_in, text_at, short_text_at, plain_at}
use Rattle.basics.specs.Promises.{PadFits, StopFits, PaddedAt}
use Rattle.basics.proofs.Rounding.{round_low}

-- ---- padding

module _ {h : List ℕ} {k at : ℕ} where
  pub pad_past : length h < at → PaddedAt h k at None
  unfolding padded
  pad_past l = record { is = rw (lt-leb (round_up k at) (length h) (omega (arith, round_low k at))); fits = tt }

module _ {h : List ℕ} {k at : ℕ} {x : Option ℕ} (p : PaddedAt h k at x) {a : ℕ} (e : x ≡ Some a) where
  pub pad_low : at ≤ a
  pad_low = (subst (PaddedAt h k at) e p).fits.0

  pub pad_high : a ≤ length h
  pad_high = (subst (PaddedAt h k at) e p).fits.1

-- ---- numbers

module _ {h : List ℕ} {k at : ℕ} {x : Option ℕ} (p : PaddedAt h k at x) where
  pub number_bad : x ≡ None → None ≡ number_at h k at
  unfolding number_at
  number_bad e = rw (number_at, ← p.is, e)

  module _ {a : ℕ} (e : x ≡ Some a) where
    pub number_is : k ≤ length h - a → Some (a + k) ≡ number_at h k at
    unfolding number_at
    number_is l = rw (number_at, ← p.is, e, le-leb k (length h - a) l)

    pub number_cut : length h - a < k → None ≡ number_at h k at
    unfolding number_at
    number_cut l = rw (number_at, ← p.is, e, lt-leb k (length h - a) l)

-- ---- where they stop

pub pad_fits : (h : List ℕ) (k at : ℕ) → PadFits h at (padded h k at)
unfolding padded
pad_fits h k at = go (leb (round_up k at) (length h) && all_zero (take (round_up k at - at) (drop at h))) refl
  where
    go : (z : Bool) → leb (round_up k at) (length h) && all_zero (take (round_up k at - at) (drop at h)) ≡ z
        → PadFits h at (cond z (Some (round_up k at)) None)
    go true e = (round_low k at, leb-true (round_up k at) (length h) (both_first _ _ e))
    go false e = tt

-- from padding's end on: a value that has a byte there
pub behind_pad : (h : List ℕ) (at a : ℕ) → at ≤ a → (x : Option ℕ) → StopFits h a x → StopFits h at x
behind_pad h at a l (Some to) f = omega arith
behind_pad h at a l None f = tt

pub in_fits : (good : List ℕ → Bool) (h : List ℕ) (from n : ℕ) → StopFits h from (text_in good h from n)
unfolding text_in
in_fits good h from n = go (ltb (from + n) (length h)) (eqb (get_or h (from + n) 0) 0) (good (take n (drop from h))) refl
  where
    go : (x y z : Bool) → ltb (from + n) (length h) ≡ x → StopFits h from (cond (x && y && z) (Some (from + n + 1)) None)
    go true true true e = (omega arith, omega (arith, ltb-true (from + n) (length h) e))
    go true true false e = tt
    go true false z e = tt
    go false y z e = tt

module _ (h : List ℕ) where
  pub number_fits : (k at : ℕ) → 1 ≤ k → StopFits h at (number_at h k at)
  unfolding number_at
  number_fits k at l = go (padded h k at) refl (pad_fits h k at)
    where
      go : (x : Option ℕ) → padded h k at ≡ x → PadFits h at x → StopFits h at (number_at h k at)
      go None e f = rw (number_at, e) tt
      go (Some a) e f = rw (number_at, e) (cut (leb k (length h - a)) refl)
        where
          cut : (z : Bool) → leb k (length h - a) ≡ z → StopFits h at (cond z (Some (a + k)) None)
          cut true q = (omega arith, omega (arith, leb-true k (length h - a) q))
          cut false q = tt

  pub boolean_fits : (o : Order) (at : ℕ) → StopFits h at (boolean_at o h at)
  unfolding boolean_at
  boolean_fits o at = go (padded h 4 at) refl (pad_fits h 4 at)
    where
      go : (x : Option ℕ) → padded h 4 at ≡ x → PadFits h at x → StopFits h at (boolean_at o h at)
      go None e f = rw (boolean_at, e) tt
      go (Some a) e f = rw (boolean_at, e) (cut (leb 4 (length h - a)) (leb (word_at o h a) 1) refl)
        where
          cut : (y z : Bool) → leb 4 (length h - a) ≡ y → StopFits h at (cond (y && z) (Some (a + 4)) None)
          cut true true q = (omega arith, omega (arith, leb-true 4 (length h - a) q))
          cut true false q = tt
          cut false z q = tt

  pub text_fits : (good : List ℕ → Bool) (o : Order) (at : ℕ) → StopFits h at (text_at good o h at)
  unfolding text_at
  text_fits good o at = go (padded h 4 at) refl (pad_fits h 4 at)
    where
      go : (x : Option ℕ) → padded h 4 at ≡ x → PadFits h at x → StopFits h at (text_at good o h at)
      go None e f = rw (text_at, e) tt
      go (Some a) e f = rw (text_at, e) (behind_pad h at (a + 4) (omega arith) (text_in good h (a + 4) (word_at o h a)) (in_fits good h (a + 4) (word_at o h a)))

  pub short_fits : (good : List ℕ → Bool) (at : ℕ) → StopFits h at (short_text_at good h at)
  unfolding short_text_at
  short_fits good at = behind_pad h at (at + 1) (omega arith) (text_in good h (at + 1) (get_or h at 0)) (in_fits good h (at + 1) (get_or h at 0))

  pub plain_fits : (o : Order) (b at : ℕ) → StopFits h at (plain_at o h b at)
  unfolding plain_at
  plain_fits o b at = go (eqb b 98) (eqb b 115) (eqb b 111) (eqb b 103)
    where
      go : (x y z w : Bool)
          → StopFits h at
          (cond x (boolean_at o h at)
          (cond y (text_at valid_utf_8 o h at)
          (cond z (text_at (valid_name form.Path) o h at) (cond w (short_text_at valid_signature h at) (number_at h (align_of b) at)))))
      go true y z w = boolean_fits o at
      go false true z w = text_fits valid_utf_8 o at
      go false false true w = text_fits (valid_name form.Path) o at
      go false false false true = short_fits valid_signature at
      go false false false false = number_fits (align_of b) at (align_some b)
