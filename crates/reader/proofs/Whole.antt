-- A whole head and any bytes, way by way.
use Rattle.std.specs.Prelude.{Option, Some, None, Result, Ok, Err}
use mathlib.Core.Path.{◌≡◌, sym, ◌∙◌}
use mathlib.Core.Bool.{Bool, true, false, not}
use mathlib.Core.List.{List}
use Prim.Native.Nat.{ℕ, ◌+◌, ◌-◌, ◌≤◌, ◌<◌}
use native.Mathlib.Omega.{arith}
use native.Mathlib.Nat.{add-sub_cancel_left, sub-zero}
use lib.ListN.{length, take, drop}
use borrow.Author.Rules.{rules}
use borrow.Author.Tests.{not-true, not-false}
use Rattle.wire.specs.Bytes.{all_zero}
use Rattle.wire.specs.Words.{word_at}
use Rattle.wire.specs.declared.Order.{Order}
use Rattle.wire.proofs.Words.{rest_at}
use Rattle.header.specs.declared.Header.{Header}
use Rattle.header.specs.declared.Place.{Place}
use Rattle.header.specs.declared.Fault.{Fault}
use Rattle.header.specs.declared.Fault.TheVariants as fault
use Rattle.header.specs.declared.Sizes.{Sizes}
use Rattle.header.specs.declared.Unread.TheVariants.{Short, Broken}
use Rattle.header.specs.Fixed.{Fixed, measures, fixed_length, order_of, array_length, head_length, fixed_part, array_word, body_word, flags_of, kind_of, serial_word}
use Rattle.header.specs.Codes.{path_code, interface_code, member_code, error_name_code, reply_serial_code, destination_code}
use Rattle.header.specs.Fields.{Fields, place_of, fields_in, fields_of}
use Rattle.header.specs.Values.{number_in, good_values}
use Rattle.header.specs.Required.{has_required}
use Rattle.header.specs.Header.{Reading, header_of, judged_head, read_head, read_header}
use Rattle.header.specs.Promises.{SizedHead, ValuesFit}
use Rattle.header.proofs.Walk.{array_fits}
use Rattle.header.proofs.Readings.{read_few, read_broken, read_short, read_whole, head_of}
use Rattle.reader.specs.Promises.{Inside, Reads}

-- ---- 8, then 9

module _ {h : List ℕ} {o : Order} {fs : Fields} (w : Reads h o fs) where
  abbrev reply : Place
  reply = place_of fs reply_serial_code

  pub a_header : (n b r : ℕ) → n ≡ word_at o h serial_word → b ≡ word_at o h body_word
      → r ≡ number_in o (take (reply.at + reply.len - reply.at) (drop reply.at h))
      → ◌≡◌ {A = Header}
      (record {
        kind = kind_of h;
        flags = flags_of h;
        serial = n;
        body = b;
        head = length h;
        reply_serial = r;
        path = place_of fs path_code;
        interface = place_of fs interface_code;
        member = place_of fs member_code;
        error_name = place_of fs error_name_code;
        destination = place_of fs destination_code;
      })
      (header_of h fs)
  unfolding header_of head_length
  a_header n b r e f g = rw (e, f, g, add-sub_cancel_left reply.at reply.len, w.order, w.head.sized)

  module _ {g : Bool} (e : g ≡ good_values o h fs) where
    pub bad_value : not g ≡ true → Err (Broken fault.Values) ≡ judged_head h fs
    unfolding judged_head
    bad_value t = rw (← w.order, ← e, t)

    module _ (t : not g ≡ false) {q : Bool} (f : q ≡ has_required (kind_of h) fs) where
      pub missing : not q ≡ true → Err (Broken fault.RequiredFields) ≡ judged_head h fs
      unfolding judged_head
      missing u = rw (← w.order, ← e, t, ← f, u)

      pub whole : not q ≡ false → {d : Header} → d ≡ header_of h fs → Ok d ≡ judged_head h fs
      unfolding judged_head
      whole u i = rw (← w.order, ← e, t, ← f, u, i)

pub ruleset judging = (a_header, bad_value, missing, whole, rules)

-- ---- 7

module _ (h : List ℕ) (o : Order) (a : ℕ) (w : SizedHead h) (p : o ≡ order_of h) (q : a ≡ word_at o h array_word) where
  array_is : array_length h ≡ a
  array_is = rw (← p, ← q)

  pub array_inside : fixed_length + a ≤ length h
  array_inside = rw (w.sized, array_is) (omega arith)

  pub walk_inside : Inside h (fixed_length + a) fixed_length
  walk_inside = record { above = omega arith; before = omega arith; padded = rw (w.sized, array_is) (omega arith); small = w.small }

  module _ {z : Bool} (e : z ≡ all_zero (take (length h - (fixed_length + a)) (drop (fixed_length + a) h))) where
    pub unpadded : not z ≡ true → Err (Broken fault.Fields) ≡ read_head h
    unfolding read_head fields_of
    unpadded t = rw (array_is, ← rest_at (fixed_length + a) h, ← e, not-true z t)

    module _ (t : not z ≡ false) {f : Option Fields} (i : f ≡ fields_in (order_of h) h (fixed_length + a)) where
      fields_are : fields_of h ≡ f
      unfolding fields_of
      fields_are = rw (array_is, ← rest_at (fixed_length + a) h, ← e, not-false z t, i)

      pub malformed : f ≡ None → Err (Broken fault.Fields) ≡ read_head h
      unfolding read_head
      malformed u = rw (fields_are, u)

      module _ {fs : Fields} (u : f ≡ Some fs) where
        pub places_fit : ValuesFit h fs
        places_fit = array_fits (order_of h) h (fixed_length + a) fs array_inside (sym i ∙ u)

        pub places_read : Reads h o fs
        places_read = record { order = p; head = w; fits = places_fit; reply = places_fit.inside reply_serial_code }

        pub well_formed : {r : Reading} → r ≡ judged_head h fs → r ≡ read_head h
        unfolding read_head
        well_formed k = k ∙ rw (fields_are, u)

pub ruleset heads = (array_inside, walk_inside, unpadded, malformed, places_read, well_formed, rules)

-- ---- any bytes

pub few_bytes : (s : List ℕ) → length s < fixed_length → Err Short ≡ read_header s
few_bytes s h = sym (read_few s h)

module _ (s : List ℕ) (k : fixed_length ≤ length s) (r : Fixed) (p : r ≡ fixed_part s) where
  pub fixed_broken : {f : Fault} → r ≡ Err f → Err (Broken f) ≡ read_header s
  fixed_broken e = sym (read_broken s k (sym p ∙ e))

  module _ {z : Sizes} (e : r ≡ Ok z) where
    pub head_short : length s < z.head → Err Short ≡ read_header s
    head_short h = sym (read_short s k (sym p ∙ e) h)

    module _ (h : z.head ≤ length s) where
      pub a_head : SizedHead (take (z.head - 0) (drop 0 s))
      a_head = rw sub-zero (head_of s (sym p ∙ e) h)

      pub then_head : {x : Reading} → x ≡ read_head (take (z.head - 0) (drop 0 s)) → x ≡ read_header s
      then_head i = (rw sub-zero at i) ∙ sym (read_whole s k (sym p ∙ e) h)

pub ruleset bytes = (few_bytes, fixed_broken, head_short, a_head, then_head, rules)
