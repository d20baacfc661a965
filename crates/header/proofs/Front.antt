-- The fixed part of a head depends on its first 16 bytes alone, and what it says where it has none of 1 to 6.
use mathlib.Core.Path.{◌≡◌, refl, sym, ap, subst, ◌∙◌}
use mathlib.Core.Bool.{Bool, true, false, cond, not}
use mathlib.Core.List.{List, ◌++◌}
use Prim.Native.Nat.{ℕ, ◌≤◌, ◌<◌}
use native.Mathlib.Omega.{arith}
use lib.Dec.{ltb, eqb}
use lib.ListN.{length, take, get_or}
use lib.Seq.{get_or-take, take_at}
use borrow.Author.Tests.{ltb-false}
use Rattle.wire.specs.Words.{word_at}
use Rattle.wire.proofs.Words.{word_take}
use Rattle.wire.proofs.Texts.{impossible}
use Rattle.std.specs.Prelude.{Result, Ok, Err}
use Rattle.header.specs.declared.Fault.{Fault}
use Rattle.header.specs.declared.Sizes.{Sizes}
use Rattle.header.specs.declared.Fault.TheVariants as fault
use Rattle.header.specs.Faults.{fault_number}
use Rattle.header.specs.Fixed.{Fixed, measures, fixed_length, array_limit, message_limit, order_of, is_order, serial_of, array_length, head_length, message_length}
use Rattle.header.specs.Fixed.{sizes_of, fixed_part, kind_of, version_of}

pub head_low : (s : List ℕ) → fixed_length ≤ head_length s
unfolding head_length
head_low s = omega arith

module _ (n : ℕ) (s : List ℕ) (h : fixed_length ≤ n) where
  pub byte_front : (i : ℕ) → i < fixed_length → get_or (take n s) i 0 ≡ get_or s i 0
  byte_front i l = get_or-take n s i 0 (omega arith)

  pub order_front : order_of (take n s) ≡ order_of s
  unfolding order_of
  order_front = rw (byte_front 0 (omega arith))

  pub word_in_front : (at : ℕ) → at ≤ 12 → word_at (order_of (take n s)) (take n s) at ≡ word_at (order_of s) s at
  word_in_front at l = rw order_front (word_take (order_of s) n s at (omega arith))

  pub head_front : head_length (take n s) ≡ head_length s
  unfolding head_length
  head_front = rw (word_in_front 12 (omega arith))

  pub message_front : message_length (take n s) ≡ message_length s
  unfolding message_length
  message_front = rw (head_front, word_in_front 4 (omega arith))

  sizes_front : sizes_of (take n s) ≡ sizes_of s
  unfolding sizes_of
  sizes_front = rw (word_in_front 8 (omega arith), word_in_front 12 (omega arith), head_front, message_front)

  pub fixed_front : fixed_part (take n s) ≡ fixed_part s
  unfolding fixed_part
  fixed_front = rw (byte_front 0 (omega arith), byte_front 1 (omega arith), byte_front 3 (omega arith), sizes_front)

-- bytes behind the first 16 change nothing
pub fixed_append : (s t : List ℕ) → fixed_length ≤ length s → fixed_part (s ++ t) ≡ fixed_part s
fixed_append s t h = sym (fixed_front (length s) (s ++ t) h) ∙ ap fixed_part (take_at s t (length s) refl)

pub head_append : (s t : List ℕ) → fixed_length ≤ length s → head_length (s ++ t) ≡ head_length s
head_append s t h = sym (head_front (length s) (s ++ t) h) ∙ ap head_length (take_at s t (length s) refl)

-- ---- the fixed part, where it has none of 1 to 6

pub record Good (s : List ℕ) (head message : ℕ) : Type 0 where
  pub serial : eqb (serial_of s) 0 ≡ false
  pub head_is : head ≡ head_length s
  pub message_is : message ≡ message_length s
  pub array : array_length s ≤ array_limit
  pub message_small : message ≤ message_limit

-- a test that was passed, and what comes after it
passes : (b : Bool) (n : Fault) (x : Fixed) {p q : ℕ} → cond b (Err n) x ≡ measures p q → (b ≡ false) × (x ≡ measures p q)
passes true n x e = impossible cc
passes false n x e = (refl, e)

Early : Fault → Type 0
Early f = (1 ≤ fault_number f) × (fault_number f ≤ 6)

-- a test that gave the answer n, or one after it
numbered : (b : Bool) (m : Fault) (x : Fixed) {n : Fault} → Early m → (x ≡ Err n → Early n) → cond b (Err m) x ≡ Err n → Early n
numbered true m x {n} k later e = let z : m ≡ n = cc in subst Early z k
numbered false m x k later e = later e

pub fixed_number : (s : List ℕ) {f : Fault} → fixed_part s ≡ Err f → (1 ≤ fault_number f) × (fault_number f ≤ 6)
unfolding fixed_part sizes_of Early
fixed_number s e =
    let six : Fixed = cond (ltb message_limit (message_length s)) (Err fault.MessageLength) (measures (head_length s) (message_length s)) in
    let five : Fixed = cond (ltb array_limit (array_length s)) (Err fault.ArrayLength) six in
    let three : Fixed = cond (eqb (kind_of s) 0) (Err fault.MessageType) (sizes_of s) in
    let two : Fixed = cond (not (eqb (version_of s) 1)) (Err fault.Version) three in
    numbered (not (is_order (get_or s 0 0))) fault.ByteOrder two (omega arith, omega arith)
    (numbered (not (eqb (version_of s) 1)) fault.Version three (omega arith, omega arith)
    (numbered (eqb (kind_of s) 0) fault.MessageType (sizes_of s) (omega arith, omega arith)
    (numbered (eqb (serial_of s) 0) fault.Serial five (omega arith, omega arith)
    (numbered (ltb array_limit (array_length s)) fault.ArrayLength six (omega arith, omega arith)
    (numbered (ltb message_limit (message_length s)) fault.MessageLength (measures (head_length s) (message_length s)) (omega arith, omega arith) (λ y. impossible cc))))))
    e

pub fixed_good : (s : List ℕ) {head message : ℕ} → fixed_part s ≡ measures head message → Good s head message
unfolding fixed_part sizes_of
fixed_good s {head} {message} e =
    let six : Fixed = cond (ltb message_limit (message_length s)) (Err fault.MessageLength) (measures (head_length s) (message_length s)) in
    let five : Fixed = cond (ltb array_limit (array_length s)) (Err fault.ArrayLength) six in
    let e₁ = passes (not (is_order (get_or s 0 0))) fault.ByteOrder _ e in
    let e₂ = passes (not (eqb (version_of s) 1)) fault.Version _ e₁.1 in
    let e₃ = passes (eqb (kind_of s) 0) fault.MessageType (sizes_of s) e₂.1 in
    let e₄ = passes (eqb (serial_of s) 0) fault.Serial five e₃.1 in
    let e₅ = passes (ltb array_limit (array_length s)) fault.ArrayLength six e₄.1 in
    let e₆ = passes (ltb message_limit (message_length s)) fault.MessageLength (measures (head_length s) (message_length s)) e₅.1 in
    let q : ◌≡◌ {A = Sizes} (record { head = head_length s; message = message_length s }) (record { head = head; message = message }) = cc e₆.1 in
    let y : message ≡ message_length s = sym (ap (λ (z : Sizes). z.message) q) in
    record {
      serial = e₄.0;
      head_is = sym (ap (λ (z : Sizes). z.head) q);
      message_is = y;
      array = ltb-false array_limit (array_length s) e₅.0;
      message_small = rw y (ltb-false message_limit (message_length s) e₆.0);
    }
