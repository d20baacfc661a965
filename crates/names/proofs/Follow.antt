-- Which byte may follow which, by the classes that a scan looks up and by what it asks of a byte behind a separator.
use Rattle.std.proofs.Common.{◌≡◌, refl, ◌∙◌, Bool, true, false, cond, not, ◌&&◌, ◌||◌, ℕ, ◌+◌, leb, eqb}
use mathlib.Core.Bool.{beq, false≢true}
use Rattle.wire.specs.Lists.{every}
use Rattle.wire.specs.Bytes.{byte}
use Rattle.names.specs.declared.Form.{Form}
use Rattle.names.specs.declared.Form.TheVariants.{Interface, WellKnown, Unique, BusName, Member, Path}
use Rattle.names.specs.Names.{digit, leads, separator, character}
use Rattle.names.specs.Classes.{ByteKind, digits, dot, slash, byte_kind, digit_bit, dot_bit}
use Rattle.names.specs.Classes.{kind_class, class_of, no_character, barred}
use Rattle.names.specs.Scan.{clear, spaced}
use Rattle.names.proofs.Told.{is, Told, told}
use Rattle.names.proofs.Lookup.{kinds, at_kind, equal, agreed, character_kind, character_told}

-- a name of the form may have more than one element
abbrev pub many : Form → Bool
many Interface = true
many WellKnown = true
many Unique = true
many BusName = true
many Member = false
many Path = true

-- the last of the bytes from `.` on that may not follow a separator, as the code has it
abbrev pub high_of : Form → ℕ
high_of form = cond (leads form) (byte "/") (byte "9")

-- b may follow p: a separator, where there may be `many` elements, after what is none; or a character, and no digit that may not lead after a separator.
-- The first byte of a name follows a separator, so to say
unfoldable pub near : Form → ℕ → ℕ → Bool
near form p b =
    many form && eqb b (separator form) && not (eqb p (separator form))
    || character form b && (leads form || not (eqb p (separator form)) || not (digit b))

-- ---- by kinds

abbrev separator_kind : Form → ByteKind
separator_kind Interface = dot
separator_kind WellKnown = dot
separator_kind Unique = dot
separator_kind BusName = dot
separator_kind Member = dot
separator_kind Path = slash

module _ {b : ℕ} {k : ByteKind} (t : Told b k) where
  separator_told : (form : Form) → eqb b (separator form) ≡ is k (separator_kind form)
  separator_told Interface = t.is_dot
  separator_told WellKnown = t.is_dot
  separator_told Unique = t.is_dot
  separator_told BusName = t.is_dot
  separator_told Member = t.is_dot
  separator_told Path = t.is_slash

  high_told : (l : Bool) → leb (byte ".") b && leb b (cond l (byte "/") (byte "9")) ≡ cond l (is k dot || is k slash) (is k digits || is k dot || is k slash)
  high_told true = t.to_slash
  high_told false = t.to_nine

abbrev near_kind : Form → ByteKind → ByteKind → Bool
near_kind form j k =
    many form && is k (separator_kind form) && not (is j (separator_kind form))
    || character_kind form k && (leads form || not (is j (separator_kind form)) || not (is k digits))

abbrev spaced_kind : Form → ByteKind → ByteKind → Bool
spaced_kind form j k = not ((is j dot || is j slash) && cond (leads form) (is k dot || is k slash) (is k digits || is k dot || is k slash))

module _ (form : Form) {p b : ℕ} {j k : ByteKind} (t : Told p j) (u : Told b k) where
  near_told : near form p b ≡ near_kind form j k
  unfolding near
  near_told = rw (separator_told t form, separator_told u form, character_told form u, u.is_digit)

  spaced_told : spaced (high_of form) p b ≡ spaced_kind form j k
  unfolding spaced
  spaced_told = rw (t.is_dot, t.is_slash, high_told u (leads form))

-- ---- the laws of a scan

abbrev pub cleared : Form → ℕ → Bool
cleared form b = clear (barred form) (class_of b)

-- the bytes of a form
pub cleared_is : (form : Form) (b : ℕ) → cleared form b ≡ character form b || many form && eqb b (separator form)
unfolding class_of
cleared_is form b =
    rw (character_told form (told b), separator_told (told b) form)
    (agreed (λ f k. clear (barred f) (kind_class k)) (λ f k. character_kind f k || many f && is k (separator_kind f)) refl form (byte_kind b))

-- behind a byte of the form, what may follow is by the class and by the separator
pair_kinds : (form : Form) (j k : ByteKind) → clear (barred form) (kind_class j) ≡ true
    → near_kind form j k ≡ clear (barred form) (kind_class k) && spaced_kind form j k
pair_kinds form j k h =
    known (clear (barred form) (kind_class j)) (near_kind form j k) (clear (barred form) (kind_class k) && spaced_kind form j k) h
    (equal (left form j k) (right form j k)
    (at_kind (λ j. beq (left form j k) (right form j k)) (agreed (λ f k. every (λ j. beq (left f j k) (right f j k)) kinds) (λ f k. true) refl form k) j))
  where
    known : (c x y : Bool) → c ≡ true → c && x ≡ c && y → x ≡ y
    known true x y h e = e
    known false x y h e = absurd (false≢true h)

    left : Form → ByteKind → ByteKind → Bool
    left f j k = clear (barred f) (kind_class j) && near_kind f j k

    right : Form → ByteKind → ByteKind → Bool
    right f j k = clear (barred f) (kind_class j) && (clear (barred f) (kind_class k) && spaced_kind f j k)

pub pair_right : (form : Form) (p b : ℕ) → cleared form p ≡ true → near form p b ≡ cleared form b && spaced (high_of form) p b
unfolding class_of
pair_right form p b h =
    near_told form (told p) (told b) ∙ pair_kinds form (byte_kind p) (byte_kind b) h ∙ rw (spaced_told form (told p) (told b))

-- a character that begins a name in which no digit leads
pub begins : (form : Form) (b : ℕ) → clear (no_character form + digit_bit) (class_of b) ≡ character form b && not (digit b)
unfolding class_of
begins form b =
    rw (character_told form (told b), (told b).is_digit)
    (agreed (λ f k. clear (no_character f + digit_bit) (kind_class k)) (λ f k. character_kind f k && not (is k digits)) refl form (byte_kind b))

pub no_dot : (b : ℕ) → clear dot_bit (class_of b) ≡ not (eqb b (byte "."))
unfolding class_of
no_dot b = rw (told b).is_dot (agreed (λ f k. clear dot_bit (kind_class k)) (λ f k. not (is k dot)) refl Path (byte_kind b))
