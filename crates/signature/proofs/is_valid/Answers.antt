-- `signature::is_valid` meets its contract: a row that ends at the slice's end is a signature.
use Rattle.std.proofs.Common.{◌≡◌, false, List, ℕ, ◌+◌, ◌-◌, ◌*◌, ◌≤◌, ◌<◌, arith, leb, eqb, length, length-drop, rules, le-leb, leb-true, eqb-true}
use Rattle.std.proofs.Common.{eq-eqb, Some, None}
use borrow.Author.Tests.{lt-leb}
use Rattle.wire.proofs.Texts.{agree}
use Rattle.signature.specs.Signature.{valid_signature}
use Rattle.signature.specs.Reader.{RowAt}
use Rattle.signature.specs.declared.RowEnd.{RowEnd}
use Rattle.std.specs.Prelude.{Option as Maybe}
use Rattle.signature.proofs.is_valid.Goals as goal

none_left : (n m : ℕ) → leb n m ≡ eqb (n - m) 0
none_left n m = agree (leb n m) (eqb (n - m) 0) (omega (arith, leb-true, eq-eqb)) (omega (arith, eqb-true, le-leb))

module _ {s : List ℕ} {m : Maybe RowEnd} (w : RowAt s 0 0 0 m) (h : length s ≤ 255) where
  whole : {t : RowEnd} → m ≡ Some t → leb (length s) t.end ≡ valid_signature s
  unfolding valid_signature
  whole {t} e = rw (le-leb (length s) 255 h, ← w.is (2 * length s + 1) (omega arith), e, length-drop) (none_left (length s) t.end)

  bad : m ≡ None → false ≡ valid_signature s
  unfolding valid_signature
  bad e = rw (le-leb (length s) 255 h, ← w.is (2 * length s + 1) (omega arith), e)

long : (s : List ℕ) → 255 < length s → false ≡ valid_signature s
unfolding valid_signature
long s h = rw (lt-leb (length s) 255 h)

ruleset ways = (long, whole, bad, rules)

pub returns-then-s-gt255 : goal.returns-then-s-gt255
returns-then-s-gt255 c = search ways

pub returns-in-Some : goal.returns-in-Some
returns-in-Some c = search ways

pub returns-in-None : goal.returns-in-None
returns-in-None c = search ways
