-- The fixed part, way by way: what the code has tested gives the definition's answer.
use mathlib.Core.Path.{◌≡◌, ◌∙◌}
use mathlib.Core.Bool.{true, false, not}
use mathlib.Core.List.{List}
use Prim.Native.Nat.{ℕ, ◌+◌, ◌≤◌, ◌<◌}
use lib.Dec.{eqb}
use lib.ListN.{get_or}
use borrow.Author.Rules.{rules}
use borrow.Author.Tests.{eq-eqb, ne_eqb, lt-ltb, le-ltb}
use Rattle.wire.specs.Bytes.{byte}
use Rattle.wire.specs.Words.{word_at, round_up_8}
use Rattle.wire.specs.declared.Order.{Order}
use Rattle.wire.specs.declared.Order.TheVariants.{Little, Big}
use Rattle.std.specs.Prelude.{Err}
use Rattle.header.specs.declared.Fault.TheVariants as fault
use Rattle.header.specs.Fixed.{Fixed, measures, fixed_length, array_limit, message_limit, order_of, is_order, head_length, message_length, sizes_of, fixed_part, array_word}
use Rattle.header.specs.Fixed.{body_word, kind_of, serial_word, version_of}

module _ (s : List ℕ) where
  pub big : get_or s 0 0 ≡ byte "B" → Big ≡ order_of s
  unfolding order_of
  big e = rw (eq-eqb (get_or s 0 0) (byte "B") e)

  pub little : (get_or s 0 0 ≡ byte "B" → ⊥) → Little ≡ order_of s
  unfolding order_of
  little e = rw (ne_eqb (get_or s 0 0) (byte "B") e)

-- the serial n, the array's length a, the same rounded up q, and the body's length b
module _ (s : List ℕ) (o : Order) (e : o ≡ order_of s) (n : ℕ) (f : n ≡ word_at o s serial_word) where
  pub no_serial : n ≡ 0 → Err fault.Serial ≡ sizes_of s
  unfolding sizes_of
  no_serial z = rw (← e, ← f, eq-eqb n 0 z)

  module _ (z : n ≡ 0 → ⊥) (a : ℕ) (g : a ≡ word_at o s array_word) where
    pub long_array : array_limit < a → Err fault.ArrayLength ≡ sizes_of s
    unfolding sizes_of
    long_array h = rw (← e, ← f, ← g, ne_eqb n 0 z, lt-ltb array_limit a h)

    module _ (h : a ≤ array_limit) (q : ℕ) (r : q ≡ round_up_8 a) (b : ℕ) (k : b ≡ word_at o s body_word) where
      pub long_message : message_limit < fixed_length + q + b → Err fault.MessageLength ≡ sizes_of s
      unfolding sizes_of message_length head_length
      long_message l =
          rw (← e, ← f, ← g, ← k, ← r, ne_eqb n 0 z, le-ltb array_limit a h, lt-ltb message_limit (fixed_length + q + b) l)

      pub both_sizes : fixed_length + q + b ≤ message_limit → measures (fixed_length + q) (fixed_length + q + b) ≡ sizes_of s
      unfolding sizes_of message_length head_length
      both_sizes l =
          rw (← e, ← f, ← g, ← k, ← r, ne_eqb n 0 z, le-ltb array_limit a h, le-ltb message_limit (fixed_length + q + b) l)

module _ (s : List ℕ) where
  pub no_order : not (is_order (get_or s 0 0)) ≡ true → Err fault.ByteOrder ≡ fixed_part s
  unfolding fixed_part
  no_order t = rw t

  module _ (t : not (is_order (get_or s 0 0)) ≡ false) where
    pub no_version : not (eqb (version_of s) 1) ≡ true → Err fault.Version ≡ fixed_part s
    unfolding fixed_part
    no_version u = rw (t, u)

    module _ (u : not (eqb (version_of s) 1) ≡ false) where
      pub no_kind : kind_of s ≡ 0 → Err fault.MessageType ≡ fixed_part s
      unfolding fixed_part
      no_kind e = rw (t, u, eq-eqb (kind_of s) 0 e)

      pub then_sizes : (kind_of s ≡ 0 → ⊥) → {r : Fixed} → r ≡ sizes_of s → r ≡ fixed_part s
      unfolding fixed_part
      then_sizes e f = f ∙ rw (t, u, ne_eqb (kind_of s) 0 e)

pub ruleset numbers = (big, little, no_serial, long_array, long_message, both_sizes, no_order, no_version, no_kind, then_sizes, rules)
