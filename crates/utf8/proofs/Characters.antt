-- A character at a time: its first byte, the bytes that follow it, and what is left behind it.
use Rattle.std.proofs.Common.{◌≡◌, refl, sym, ap, ◌∙◌, Bool, true, false, not, ◌&&◌, List, [], ◌∷◌, ℕ, zero, suc, ◌+◌, ◌-◌, ◌≤◌, ◌<◌, add-zero, arith}
use Rattle.std.proofs.Common.{length, drop, get_or, length-drop, rules, le-leb, ne_eqb, Option, Some, None}
use mathlib.Core.Bool.{and-false, and_assoc, false≢true}
use native.Mathlib.Nat.{sub-zero}
use borrow.Author.Tests.{lt-leb, not-true, not-false}
use Rattle.wire.proofs.From.{next}
use Rattle.utf8.specs.Utf8.{within, ascii, lead_of, utf8_from, valid_utf_8}
use Rattle.utf8.specs.Scan.{valid_from, Tail, Past}
use Rattle.utf8.proofs.Lines.{told}
use Rattle.utf8.specs.declared.Lead.{Lead}

-- ---- the bytes that end a character

-- between two characters the range is not asked for
between : (low high : ℕ) (s : List ℕ) → utf8_from 0 low high s ≡ valid_utf_8 s
unfolding utf8_from valid_utf_8
between low high [] = refl
between low high (b ∷ s) = refl

pub from_inside : (s : List ℕ) (i : ℕ) → i ≤ length s → valid_utf_8 (drop i s) ≡ valid_from s i
unfolding valid_from
from_inside s i h = rw (le-leb i (length s) h)

cut_short : (due low high : ℕ) (s : List ℕ) → length s < due → utf8_from due low high s ≡ false
unfolding utf8_from
cut_short zero low high s h = absurd (omega arith)
cut_short (suc due) low high [] h = ne_eqb (suc due) 0 (λ e. omega arith)
cut_short (suc due) low high (b ∷ s) h = rw (cut_short due 0x80 0xbf s (omega arith)) (and-false (within low high b))

pub tail_short : {s : List ℕ} {at due low high : ℕ} → length s - at < due → Tail s at due low high false
tail_short {s} {at} {due} {low} {high} h =
    record { inside = λ e. absurd (false≢true e); rest = cut_short due low high (drop at s) (rw (length-drop at s) h) }

pub record Trailing (s : List ℕ) (at due first last : ℕ) (good : Bool) (low high i : ℕ) : Type 0 where
  pub inside : at + due ≤ length s
  pub rest : utf8_from due first last (drop at s) ≡ good && utf8_from (due - i) low high (drop (at + i) s)

pub tail_begin : {s : List ℕ} {at due first last : ℕ} → at ≤ length s → due ≤ length s - at
    → Trailing s at due first last true first last 0
tail_begin {s} {at} {due} h k = record { inside = omega arith; rest = rw (sub-zero due, add-zero at) }

module _ {s : List ℕ} {at due first last : ℕ} {good : Bool} {low high i : ℕ} (z : Trailing s at due first last good low high i) where
  pub tail_more : i < due → {r : Bool} → r ≡ within low high (get_or s (at + i) 0) → Trailing s at due first last (good && r) 0x80 0xbf (i + 1)
  unfolding utf8_from
  tail_more h {r} e =
      let f : due - i ≡ suc (due - (i + 1)) = omega arith in
      let g : at + (i + 1) ≡ at + i + 1 = omega arith in
      record {
        inside = z.inside;
        rest =
            z.rest
            ∙ rw (f, next s (at + i) (omega arith), ← e, g)
            (sym (and_assoc good r (utf8_from (due - (i + 1)) 0x80 0xbf (drop (at + i + 1) s))));
      }

  pub tail_end : i ≡ due → Tail s at due first last good
  tail_end e =
      let f : due - due ≡ 0 = omega arith in
      record {
        inside = λ t. z.inside;
        rest =
            z.rest ∙ rw (e, f) (ap (λ b. good && b) (between low high (drop (at + due) s) ∙ from_inside s (at + due) z.inside));
      }

pub ruleset trailing = (tail_short, tail_begin, tail_more, tail_end, rules)

-- ---- one character after another

pub record Passing (s : List ℕ) (from to i : ℕ) : Type 0 where
  pub inside : i ≤ length s
  pub goal : to ≤ length s
  pub rest : valid_from s from ≡ valid_from s i

pub pass_begin : {s : List ℕ} {from to : ℕ} → from ≤ length s → to ≤ length s → Passing s from to from
pass_begin h k = record { inside = h; goal = k; rest = refl }

-- a first byte
step : (s : List ℕ) (i : ℕ) → i < length s
    → valid_from s i ≡ elim (lead_of (get_or s i 0)) [ None ↦ false | Some l ↦ utf8_from l.due l.low l.high (drop (i + 1) s) ]
unfolding valid_from valid_utf_8 utf8_from
step s i h = rw (utf8_from, le-leb i (length s) (omega arith), next s i h)

-- a character of one byte
pub ascii_on : (s : List ℕ) (i : ℕ) → i < length s → ascii (get_or s i 0) ≡ true → valid_from s i ≡ valid_from s (i + 1)
unfolding lead_of
ascii_on s i h e = step s i h ∙ rw e (between 0x80 0xbf (drop (i + 1) s) ∙ from_inside s (i + 1) (omega arith))

-- behind the end
nothing : (s : List ℕ) → valid_from s (length s + 1) ≡ false
unfolding valid_from
nothing s = rw (lt-leb (length s + 1) (length s) (omega arith))

module _ {s : List ℕ} {from to i : ℕ} (z : Passing s from to i) where
  pub pass_end : to ≤ i → Past s from to i
  pass_end h = record { far = h; rest = z.rest }

  -- what is left is not valid
  stop : valid_from s i ≡ false → Past s from to (length s + 1)
  stop e = let h : to ≤ length s = z.goal in record { far = omega arith; rest = z.rest ∙ e ∙ sym (nothing s) }

  module _ (h : i < to) where
    pub pass_ascii : {r : Bool} → r ≡ ascii (get_or s i 0) → not r ≡ false → Passing s from to (i + 1)
    pass_ascii {r} e t =
        let l : i < length s = omega arith in
        record { inside = omega arith; goal = z.goal; rest = z.rest ∙ ascii_on s i l (sym e ∙ not-false r t) }

    module _ {x : Option Lead} (e : x ≡ lead_of (get_or s i 0)) where
      pub pass_bad : x ≡ None → Past s from to (length s + 1)
      pass_bad q = stop (step s i (omega arith) ∙ rw (← e, q))

      module _ {l : Lead} (q : x ≡ Some l) {r : Bool} (d : Tail s (i + 1) l.due l.low l.high r) where
        whole : valid_from s i ≡ r && valid_from s (i + 1 + l.due)
        whole = step s i (omega arith) ∙ rw (← e, q) d.rest

        pub pass_stop : not r ≡ true → Past s from to (length s + 1)
        pass_stop t = stop (whole ∙ rw (not-true r t))

        pub pass_more : not r ≡ false → Passing s from to (i + 1 + l.due)
        pass_more t =
            let y : r ≡ true = not-false r t in
            record { inside = d.inside y; goal = z.goal; rest = z.rest ∙ whole ∙ rw y }

pub ruleset passing = (told, not-true, pass_begin, pass_end, pass_ascii, pass_bad, pass_stop, pass_more, rules)
