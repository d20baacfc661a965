-- The values and the required fields, way by way.
use mathlib.Core.Path.{◌≡◌, refl, ◌∙◌}
use mathlib.Core.Bool.{Bool, true, false, cond, not, ◌&&◌, and-true, and_assoc}
use mathlib.Core.List.{List}
use Prim.Native.Nat.{ℕ, ◌+◌, ◌-◌, ◌≤◌, ◌<◌}
use native.Mathlib.Nat.{add-sub_cancel_left}
use lib.Dec.{eqb}
use lib.ListN.{length, take, drop}
use borrow.Author.Rules.{rules}
use borrow.Author.Tests.{eq-eqb, ne_eqb, lt-ltb, le-ltb}
use Rattle.wire.specs.Words.{word_at}
use Rattle.wire.specs.declared.Order.{Order}
use Rattle.wire.proofs.Below.{Testing, begin, more, done, fails}
use Rattle.names.specs.Names.{valid_name}
use Rattle.names.specs.declared.Form.{Form}
use Rattle.signature.specs.Signature.{valid_signature}
use Rattle.header.specs.declared.Place.{Place}
use Rattle.header.specs.Codes.{name, any_value, call, return, error, signal, code_limit, path_code, interface_code, member_code, error_name_code}
use Rattle.header.specs.Codes.{reply_serial_code, destination_code, sender_code, signature_code, descriptors_code, rule_of}
use Rattle.header.specs.Fields.{Fields, place_of, present}
use Rattle.header.specs.Values.{number_in, obeys, good_value, good_field, good_values}
use Rattle.header.specs.Required.{has_required}
use Rattle.header.specs.Promises.{ValuesFit}

pub few : (o : Order) (t : List ℕ) → length t < 4 → 0 ≡ number_in o t
unfolding number_in
few o t h = rw (lt-ltb (length t) 4 h)

pub four : (o : Order) (t : List ℕ) → 4 ≤ length t → {r : ℕ} → r ≡ word_at o t 0 → r ≡ number_in o t
unfolding number_in
four o t h e = rw (le-ltb (length t) 4 h) e

pub ruleset number = (few, four, rules)

-- ---- one value

module _ (o : Order) (code : ℕ) (t : List ℕ) where
  pub a_name : (k : ℕ) → code ≡ k → (f : Form) → rule_of k ≡ name f → {r : Bool} → r ≡ valid_name f t → r ≡ good_value o code t
  unfolding good_value
  a_name k e f g i = i ∙ rw (e, g)

  pub a_serial : code ≡ reply_serial_code → {n : ℕ} → n ≡ number_in o t → not (eqb n 0) ≡ good_value o code t
  unfolding good_value
  a_serial e f = rw (e, f)

  pub a_signature : code ≡ signature_code → {r : Bool} → r ≡ valid_signature t → r ≡ good_value o code t
  unfolding good_value
  a_signature e i = i ∙ rw e

  pub anything : (code ≡ path_code → ⊥) → (code ≡ interface_code → ⊥) → (code ≡ member_code → ⊥) → (code ≡ error_name_code → ⊥)
      → (code ≡ reply_serial_code → ⊥) → (code ≡ destination_code → ⊥) → (code ≡ sender_code → ⊥) → (code ≡ signature_code → ⊥) → true ≡ good_value o code t
  unfolding good_value
  anything a b c d e f g h =
      rw (
        ne_eqb code path_code a,
        ne_eqb code interface_code b,
        ne_eqb code member_code c,
        ne_eqb code error_name_code d,
        ne_eqb code reply_serial_code e,
        ne_eqb code destination_code f,
        ne_eqb code sender_code g,
        ne_eqb code signature_code h,
      )
      (go (eqb code descriptors_code))
    where
      go : (x : Bool) → true ≡ obeys o (cond x any_value any_value) t
      go true = refl
      go false = refl

pub ruleset value = (a_name, a_serial, a_signature, anything, rules)

module _ (o : Order) (h : List ℕ) (p : Place) (code : ℕ) where
  pub not_there : p.at ≡ 0 → true ≡ good_field o h p code
  unfolding good_field
  not_there e = rw (eq-eqb p.at 0 e)

  pub there : (p.at ≡ 0 → ⊥) → {r : Bool} → r ≡ good_value o code (take (p.at + p.len - p.at) (drop p.at h)) → r ≡ good_field o h p code
  unfolding good_field
  there n e = rw (ne_eqb p.at 0 n) (rw (add-sub_cancel_left p.at p.len) at e)

pub ruleset field = (not_there, there, rules)

-- ---- all values

abbrev pub Checking : Order → List ℕ → Fields → ℕ → Type 0
Checking o h fs code = Testing (λ n. good_field o h (place_of fs n) n) code_limit code

pub place_fits : {h : List ℕ} {fs : Fields} (code : ℕ) → ValuesFit h fs → (place_of fs (code - 1)).at + (place_of fs (code - 1)).len ≤ length h
place_fits code f = f.inside (code - 1)

module _ (o : Order) (h : List ℕ) (fs : Fields) {code : ℕ} (c : Checking o h fs code) where
  pub checking_stops : 0 < code → {r : Bool} → r ≡ good_field o h (place_of fs (code - 1)) (code - 1) → not r ≡ true → false ≡ good_values o h fs
  unfolding good_values
  checking_stops l e t = fails c l e t

  pub checking_ends : code ≤ 0 → true ≡ good_values o h fs
  unfolding good_values
  checking_ends l = done c l

pub ruleset checking = (begin, more, place_fits, checking_stops, checking_ends, rules)

-- ---- required fields

module _ (kind : ℕ) (fs : Fields) where
  pub for_call : kind ≡ call → {a b : Bool} → a ≡ present (place_of fs path_code) → b ≡ present (place_of fs member_code) → a && b ≡ has_required kind fs
  unfolding has_required
  for_call e p q = rw (e, p, q, and-true (present (place_of fs member_code)))

  pub for_return : kind ≡ return → {a : Bool} → a ≡ present (place_of fs reply_serial_code) → a ≡ has_required kind fs
  unfolding has_required
  for_return e p = rw (e, p, and-true (present (place_of fs reply_serial_code)))

  pub for_error : kind ≡ error → {a b : Bool} → a ≡ present (place_of fs error_name_code) → b ≡ present (place_of fs reply_serial_code) → a && b ≡ has_required kind fs
  unfolding has_required
  for_error e p q = rw (e, p, q, and-true (present (place_of fs reply_serial_code)))

  pub for_signal : kind ≡ signal → {a b c : Bool} → a ≡ present (place_of fs path_code) → b ≡ present (place_of fs interface_code)
      → c ≡ present (place_of fs member_code) → a && b && c ≡ has_required kind fs
  unfolding has_required
  for_signal e p q r = rw (e, p, q, r, and-true (present (place_of fs member_code)), and_assoc)

  pub for_other : (kind ≡ call → ⊥) → (kind ≡ return → ⊥) → (kind ≡ error → ⊥) → (kind ≡ signal → ⊥) → true ≡ has_required kind fs
  unfolding has_required
  for_other a b c d = rw (ne_eqb kind call a, ne_eqb kind return b, ne_eqb kind error c, ne_eqb kind signal d)

pub ruleset required = (for_call, for_return, for_error, for_signal, for_other, rules)
