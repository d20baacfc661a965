-- The five ways in which bytes begin: too few for a fixed part, a broken fixed part, a part of a head, a broken head, a whole head.
use mathlib.Core.Path.{◌≡◌, refl, sym, ◌∙◌, subst}
use mathlib.Core.List.{List}
use Prim.Native.Nat.{ℕ, ◌+◌, ◌≤◌, ◌<◌}
use native.Mathlib.Omega.{arith}
use native.Mathlib.Decide.{dec_lt}
use lib.ListN.{length, take}
use Rattle.header.specs.declared.Header.{Header}
use Rattle.std.specs.Prelude.{Ok, Err}
use Rattle.header.specs.declared.Fault.{Fault}
use Rattle.header.specs.Faults.{fault_number}
use Rattle.header.specs.declared.Unread.TheVariants.{Short, Broken}
use Rattle.header.specs.Fixed.{fixed_length, head_limit, message_limit, head_length, message_length, Fixed, measures, fixed_part}
use Rattle.header.specs.Header.{Reading, read_header}
use Rattle.header.proofs.Front.{fixed_number, fixed_good}
use Rattle.header.proofs.Readings.{read_few, read_broken, read_short, read_whole, head_not_short, head_number, whole_fits}

-- the lengths of the head and of the message, as a good fixed part says them
pub record Sized (s : List ℕ) (head message : ℕ) : Type 0 where
  pub sizes : fixed_part s ≡ measures head message
  pub is_head : head ≡ head_length s
  pub above : fixed_length ≤ head
  pub small : head ≤ head_limit
  pub inside : head ≤ message
  pub fits : message ≤ message_limit

pub sized : (s : List ℕ) {head message : ℕ} → fixed_part s ≡ measures head message → Sized s head message
unfolding head_length message_length
sized s e =
    let g = fixed_good s e in
    record {
      sizes = e;
      is_head = g.head_is;
      above = omega (arith, g.head_is);
      small = omega (arith, g.head_is, g.array);
      inside = omega (arith, g.head_is, g.message_is);
      fits = g.message_small;
    }

-- what a header says of the bytes that it was read from
pub record WholeHead (s : List ℕ) (x : Header) : Type 0 where
  pub sizes : Sized s x.head (x.head + x.body)
  pub inside : x.head ≤ length s

pub whole_head : (s : List ℕ) {x : Header} → read_header s ≡ Ok x → WholeHead s x
unfolding message_length
whole_head s e =
    let f = whole_fits s _ e in
    record { sizes = sized s (f.sizes ∙ rw (f.head_is, f.body_is)); inside = f.head_inside }

-- a head that has come whole is decided, and not by 1 to 6
module _ (s : List ℕ) {head message : ℕ} (l : fixed_length ≤ length s) (e : fixed_part s ≡ measures head message) (k : head ≤ length s) where
  pub not_short : read_header s ≡ Err Short → ⊥
  not_short q = head_not_short (take head s) (sym (read_whole s l e k) ∙ q)

  pub late_fault : {f : Fault} → read_header s ≡ Err (Broken f) → 6 < fault_number f
  late_fault q = omega (arith, head_number (take head s) (sym (read_whole s l e k) ∙ q))

-- 1 to 6 are found in the fixed part, and 7 to 9 in a head that has come whole
pub data Known (s : List ℕ) : Reading → Type 0 where
  few : length s < fixed_length → Known s (Err Short)
  early : {f : Fault} → fixed_length ≤ length s → fault_number f ≤ 6 → fixed_part s ≡ Err f → Known s (Err (Broken f))
  part : {head message : ℕ} → fixed_length ≤ length s → Sized s head message → length s < head → Known s (Err Short)
  late : {f : Fault} {head message : ℕ} → fixed_length ≤ length s → 6 < fault_number f → Sized s head message → head ≤ length s → Known s (Err (Broken f))
  all : {x : Header} → WholeHead s x → Known s (Ok x)

pub known : (s : List ℕ) {r : Reading} → read_header s ≡ r → Known s r
known s {r} e = go (dec_lt (length s) fixed_length)
  where
    last : {head message : ℕ} → fixed_length ≤ length s → Sized s head message → head ≤ length s → (r : Reading) → read_header s ≡ r → Known s r
    last l z k (Err Short) q = absurd (not_short s l z.sizes k q)
    last l z k (Err (Broken f)) q = late l (late_fault s l z.sizes k q) z k
    last l z k (Ok x) q = all (whole_head s q)

    there : {head message : ℕ} → fixed_length ≤ length s → Sized s head message → Dec (length s < head) → Known s r
    there l z (yes d) = subst (Known s) (sym (read_short s l z.sizes d) ∙ e) (part l z d)
    there l z (no d) = last l z (omega arith) r e

    next : fixed_length ≤ length s → (f : Fixed) → fixed_part s ≡ f → Known s r
    next l (Err a) f = subst (Known s) (sym (read_broken s l f) ∙ e) (early l (fixed_number s f).1 f)
    next l (Ok z) f = there l (sized s f) (dec_lt (length s) z.head)

    go : Dec (length s < fixed_length) → Known s r
    go (yes d) = subst (Known s) (sym (read_few s d) ∙ e) (few d)
    go (no d) = next (omega arith) (fixed_part s) refl
