-- One element of the array, way by way.
use Rattle.std.specs.Prelude.{Option, Some, None}
use mathlib.Core.Path.{◌≡◌, refl, sym, ◌∙◌}
use mathlib.Core.Bool.{Bool, true, false, cond, not, ◌&&◌}
use mathlib.Core.List.{List, [], ◌∷◌}
use Prim.Native.Nat.{ℕ, ◌+◌, ◌-◌, ◌≤◌, ◌<◌}
use native.Mathlib.Omega.{arith}
use lib.Dec.{ltb, eqb}
use lib.ListN.{take, drop, get_or}
use borrow.Author.Rules.{rules}
use borrow.Author.Tests.{eq-eqb, ne_eqb, lt-ltb, le-ltb, le-leb, lt-leb, eqb-true, eqb-false, not-true, not-false}
use Rattle.wire.specs.Bytes.{byte, all_zero}
use Rattle.wire.specs.Words.{word_at, round_up_8}
use Rattle.wire.specs.declared.Order.{Order}
use Rattle.variant.specs.Walk.{skipped}
use Rattle.variant.proofs.Skipped.{skipped_in}
use Rattle.header.specs.declared.Element.{Element}
use Rattle.header.specs.declared.Element.TheVariants.{At, Skip}
use Rattle.wire.proofs.Below.{below_at}
use Rattle.header.specs.Codes.{code_limit, letter_of}
use Rattle.header.specs.Fixed.{order_of}
use Rattle.header.specs.Fields.{text_in, value_at, framed, known_at, unknown_at, by_code, element_at}
use Rattle.reader.specs.Promises.{element_in}

-- the letters of the codes from 0 on, as the code has them
abbrev letters : List ℕ
letters = 0 ∷ byte "o" ∷ byte "s" ∷ byte "s" ∷ byte "s" ∷ byte "u" ∷ byte "s" ∷ byte "s" ∷ byte "g" ∷ byte "u" ∷ []

pub a_letter : (code : ℕ) → code < code_limit → get_or letters code 0 ≡ letter_of code
unfolding letter_of
a_letter code h = eqb-true (get_or letters code 0) (letter_of code) (below_at (λ i. eqb (get_or letters i 0) (letter_of i)) code_limit refl code h)

-- a test of no matter
idle : (b : Bool) → ◌≡◌ {A = Option Element} None (cond b None None)
idle true = refl
idle false = refl

-- a text and its zero
module _ (h : List ℕ) (end code at len : ℕ) where
  pub text_past : end ≤ at + len → None ≡ text_in h end code at len
  unfolding text_in
  text_past l = rw (le-ltb (at + len) end l)

  module _ (l : at + len < end) where
    pub text_ends : get_or h (at + len) 0 ≡ 0 → Some (At code at len (at + len + 1)) ≡ text_in h end code at len
    unfolding text_in
    text_ends e = rw (lt-ltb (at + len) end l, eq-eqb (get_or h (at + len) 0) 0 e)

    pub text_unended : (get_or h (at + len) 0 ≡ 0 → ⊥) → None ≡ text_in h end code at len
    unfolding text_in
    text_unended e = rw (lt-ltb (at + len) end l, ne_eqb (get_or h (at + len) 0) 0 e)

pub ruleset texts = (text_past, text_ends, text_unended, a_letter, rules)

-- a value by its letter
module _ (o : Order) (h : List ℕ) (end code letter at : ℕ) where
  module _ (g : letter ≡ byte "g") where
    pub short_signature : end ≤ at → None ≡ value_at o h end code letter at
    unfolding value_at
    short_signature l = rw (eq-eqb letter (byte "g") g) (text_past h end code (at + 1) (get_or h at 0) (omega arith))

    pub a_signature : (n : ℕ) → n ≡ get_or h at 0 → {r : Option Element} → r ≡ text_in h end code (at + 1) n → r ≡ value_at o h end code letter at
    unfolding value_at
    a_signature n e f = f ∙ rw (eq-eqb letter (byte "g") g, e)

  module _ (g : letter ≡ byte "g" → ⊥) where
    pub short_value : end < at + 4 → None ≡ value_at o h end code letter at
    unfolding value_at
    short_value l =
        rw (ne_eqb letter (byte "g") g, lt-leb (at + 4) end l, ← text_past h end code (at + 4) (word_at o h at) (omega arith))
        (idle (eqb letter (byte "u")))

    module _ (l : at + 4 ≤ end) where
      pub a_number : letter ≡ byte "u" → Some (At code at 4 (at + 4)) ≡ value_at o h end code letter at
      unfolding value_at
      a_number u = rw (ne_eqb letter (byte "g") g, eq-eqb letter (byte "u") u, le-leb (at + 4) end l)

      pub a_text : (letter ≡ byte "u" → ⊥) → (n : ℕ) → n ≡ word_at o h at → {r : Option Element} → r ≡ text_in h end code (at + 4) n
          → r ≡ value_at o h end code letter at
      unfolding value_at
      a_text u n e f = f ∙ rw (ne_eqb letter (byte "g") g, ne_eqb letter (byte "u") u, e)

  pub value_past : end < at → None ≡ value_at o h end code letter at
  value_past l = go (eqb letter (byte "g")) refl
    where
      go : (b : Bool) → eqb letter (byte "g") ≡ b → None ≡ value_at o h end code letter at
      go true e = short_signature (eqb-true letter (byte "g") e) (omega arith)
      go false e = short_value (eqb-false letter (byte "g") e) (omega arith)

pub ruleset values = (short_signature, a_signature, short_value, a_number, a_text, rules)

-- a known field
module _ (h : List ℕ) (at : ℕ) where
  pub a_frame : (c : ℕ) → c ≡ get_or h at 0 → (l : ℕ) → l ≡ letter_of c
      → not (eqb l 0) && eqb (get_or h (at + 1) 0) 1 && eqb (get_or h (at + 2) 0) l && eqb (get_or h (at + 3) 0) 0 ≡ framed h at
  unfolding framed
  a_frame c e l f = rw (f, e)

module _ (o : Order) (h : List ℕ) (end at : ℕ) where
  pub known_past : end < at + 4 → None ≡ known_at o h end at
  unfolding known_at
  known_past l = rw (← value_past o h end (get_or h at 0) (letter_of (get_or h at 0)) (at + 4) l) (idle (framed h at))

  module _ (f : Bool) (q : f ≡ framed h at) where
    pub known_unframed : not f ≡ true → None ≡ known_at o h end at
    unfolding known_at
    known_unframed t = rw (← q, not-true f t)

    pub known_framed : not f ≡ false → (c : ℕ) → c ≡ get_or h at 0 → (l : ℕ) → l ≡ letter_of c → {r : Option Element} → r ≡ value_at o h end c l (at + 4)
        → r ≡ known_at o h end at
    unfolding known_at
    known_framed t c g l k i = i ∙ rw (← q, not-false f t, k, g)

  -- an unknown field
  module _ {t : Option ℕ} (p : t ≡ skipped o h (at + 1) end) where
    pub unknown_bad : t ≡ None → None ≡ unknown_at o h end at
    unfolding unknown_at
    unknown_bad e = rw (unknown_at, ← p, e)

    pub unknown_stops : {to : ℕ} → t ≡ Some to → Some (Skip to) ≡ unknown_at o h end at
    unfolding unknown_at
    unknown_stops e = rw (unknown_at, ← p, e)

  -- no field begins behind the array
  code_past : end ≤ at → None ≡ by_code o h end at
  code_past l = rw (← known_past (omega arith), ← unknown) (idle (ltb (get_or h at 0) code_limit))
    where
      go : (t : Option ℕ) → t ≡ skipped o h (at + 1) end → None ≡ unknown_at o h end at
      go None p = unknown_bad p refl
      go (Some to) p = let i = skipped_in o h (at + 1) end (sym p) in absurd (omega arith)

      unknown : None ≡ unknown_at o h end at
      unknown = go (skipped o h (at + 1) end) refl

pub ruleset fields = (a_frame, known_past, known_unframed, known_framed, unknown_bad, unknown_stops, rules)

-- the whole element
module _ (o : Order) (h : List ℕ) (end from at : ℕ) (e : at ≡ round_up_8 from) where
  pub element_past : end ≤ at → None ≡ element_at o h end from
  unfolding element_at
  element_past l = rw (← e, ← code_past o h end at l) (idle (all_zero (take (at - from) (drop from h))))

  module _ (z : Bool) (p : z ≡ all_zero (take (at - from) (drop from h))) where
    pub element_unpadded : not z ≡ true → None ≡ element_at o h end from
    unfolding element_at
    element_unpadded t = rw (← e, ← p, not-true z t)

    module _ (t : not z ≡ false) (c : ℕ) (g : c ≡ get_or h at 0) where
      pub element_known : c < code_limit → {r : Option Element} → r ≡ known_at o h end at → r ≡ element_at o h end from
      unfolding element_at
      element_known k i = i ∙ rw (← e, ← p, not-false z t, ← g, lt-ltb c code_limit k)

      pub element_unknown : code_limit ≤ c → {r : Option Element} → r ≡ unknown_at o h end at → r ≡ element_at o h end from
      unfolding element_at
      element_unknown k i = i ∙ rw (← e, ← p, not-false z t, ← g, le-ltb c code_limit k)

pub ruleset elements = (element_past, element_unpadded, element_known, element_unknown, rules)

-- the same in the byte order of h
pub in_order : (o : Order) (h : List ℕ) (end from : ℕ) → o ≡ order_of h → {r : Option Element} → r ≡ element_at o h end from → r ≡ element_in h end from
in_order o h end from e i = i ∙ rw e
