-- The laws of a reading that callers go by.
use Rattle.std.specs.Prelude.{Option, Some, None, Result, Ok, Err}
use mathlib.Core.Path.{◌≡◌, refl, sym, ap, subst, ◌∙◌}
use mathlib.Core.Bool.{Bool, true, false, cond, not}
use mathlib.Core.List.{List, ◌++◌}
use Prim.Native.Nat.{ℕ, ◌+◌, ◌≤◌, ◌<◌}
use native.Mathlib.Decide.{dec_le}
use native.Mathlib.Omega.{arith}
use lib.ListN.{length, take, drop}
use lib.Seq.{length-take-le, take_all, take-take, take_at}
use borrow.Author.Tests.{lt-ltb, le-ltb}
use Rattle.wire.specs.Bytes.{all_zero}
use Rattle.wire.proofs.Texts.{impossible}
use Rattle.header.specs.declared.Place.{Place}
use Rattle.header.specs.declared.Header.{Header}
use Rattle.header.specs.declared.Fault.{Fault}
use Rattle.header.specs.declared.Fault.TheVariants as fault
use Rattle.header.specs.declared.Unread.TheVariants.{Short, Broken}
use Rattle.header.specs.Faults.{fault_number}
use Rattle.header.specs.Fixed.{Fixed, measures, fixed_length, array_limit, head_limit, order_of, kind_of, body_length, serial_of, array_length, head_length}
use Rattle.header.specs.Fixed.{message_length, fixed_part}
use Rattle.header.specs.Fields.{Fields, place_of, fields_in, fields_of}
use Rattle.header.specs.Values.{good_values}
use Rattle.header.specs.Required.{has_required}
use Rattle.header.specs.Header.{Reading, header_of, judged_head, or_seven, read_head, read_header}
use Rattle.header.specs.Promises.{SizedHead, ValuesFit}
use Rattle.header.proofs.Front.{word_in_front, head_front, head_low, fixed_front, fixed_append, Good, fixed_good}
use Rattle.header.proofs.Walk.{array_fits}

-- ---- what a reading comes to

pub read_few : (s : List ℕ) → length s < fixed_length → read_header s ≡ Err Short
unfolding read_header
read_few s h = rw (lt-ltb (length s) fixed_length h)

module _ (s : List ℕ) (k : fixed_length ≤ length s) where
  pub read_broken : {f : Fault} → fixed_part s ≡ Err f → read_header s ≡ Err (Broken f)
  unfolding read_header
  read_broken e = rw (le-ltb (length s) fixed_length k, e)

  module _ {head message : ℕ} (e : fixed_part s ≡ measures head message) where
    pub read_short : length s < head → read_header s ≡ Err Short
    unfolding read_header
    read_short h = rw (le-ltb (length s) fixed_length k, e, lt-ltb (length s) head h)

    pub read_whole : head ≤ length s → read_header s ≡ read_head (take head s)
    unfolding read_header
    read_whole h = rw (le-ltb (length s) fixed_length k, e, le-ltb (length s) head h)

-- the bytes that the fixed part says are a head are as long as their array says
pub head_of : (s : List ℕ) {head message : ℕ} → fixed_part s ≡ measures head message → head ≤ length s → SizedHead (take head s)
unfolding head_length
head_of s {head} {message} e h =
    let g : Good s head message = fixed_good s e in
    let a : array_length s ≤ array_limit = g.array in
    let m : fixed_length ≤ head = rw g.head_is (omega arith) in
    let n : array_length (take head s) ≡ array_length s = word_in_front head s m 12 (omega arith) in
    record {
      sized = rw (length-take-le head s h, n) g.head_is;
      small = rw (length-take-le head s h, g.head_is) (omega arith);
    }

-- ---- a head that has come whole is decided: 7, 8, 9 or none

module _ (h : List ℕ) (fs : Fields) (P : Reading → Type 0) (eight : P (Err (Broken fault.Values))) (nine : P (Err (Broken fault.RequiredFields))) (good : P (Ok (header_of h fs))) where
  judged_is : P (judged_head h fs)
  unfolding judged_head
  judged_is = go (not (good_values (order_of h) h fs)) (not (has_required (kind_of h) fs))
    where
      go : (a b : Bool) → P (cond a (Err (Broken fault.Values)) (cond b (Err (Broken fault.RequiredFields)) (Ok (header_of h fs))))
      go true b = eight
      go false true = nine
      go false false = good

Decided : Reading → Type 0
Decided (Err Short) = ⊥
Decided (Err (Broken f)) = (7 ≤ fault_number f) × (fault_number f ≤ 9)
Decided (Ok d) = Unit {0}

head_decided : (h : List ℕ) → Decided (read_head h)
unfolding read_head Decided
head_decided h = go (fields_of h)
  where
    go : (f : Option Fields) → Decided (or_seven h f)
    go None = (omega arith, omega arith)
    go (Some fs) = judged_is h fs Decided (omega arith, omega arith) (omega arith, omega arith) tt

pub head_not_short : (h : List ℕ) → read_head h ≡ Err Short → ⊥
unfolding Decided
head_not_short h e = subst Decided e (head_decided h)

pub head_number : (h : List ℕ) {f : Fault} → read_head h ≡ Err (Broken f) → (7 ≤ fault_number f) × (fault_number f ≤ 9)
unfolding Decided
head_number h e = subst Decided e (head_decided h)

-- ---- bytes behind the head do not matter

-- whatever the fixed part says of the head's length, n bytes are enough for it
module _ (n : ℕ) (s : List ℕ) (h : fixed_length ≤ n) (enough : (head message : ℕ) → fixed_part s ≡ measures head message → head ≤ n) where
  read_enough : read_header (take n s) ≡ read_header s
  read_enough = go (dec_le (length s) n)
    where
      more : n < length s → (r : Fixed) → fixed_part s ≡ r → read_header (take n s) ≡ read_header s
      more l (Err f) e =
          let i : length (take n s) ≡ n = length-take-le n s (omega arith) in
          read_broken (take n s) (omega arith) (fixed_front n s h ∙ e) ∙ sym (read_broken s (omega arith) e)
      more l (Ok z) e =
          let i : length (take n s) ≡ n = length-take-le n s (omega arith) in
          let j : z.head ≤ n = enough z.head z.message e in
          read_whole (take n s) (omega arith) (fixed_front n s h ∙ e) (omega arith)
          ∙ ap read_head (take-take z.head n s j)
          ∙ sym (read_whole s (omega arith) e (omega arith))

      go : Dec (length s ≤ n) → read_header (take n s) ≡ read_header s
      go (yes l) = ap read_header (take_all n s l)
      go (no l) = more (omega arith) (fixed_part s) refl

pub read_front : (n : ℕ) (s : List ℕ) → fixed_length ≤ n → head_length s ≤ n → read_header (take n s) ≡ read_header s
read_front n s h k = read_enough n s h (λ head message e. subst (λ (x : ℕ). x ≤ n) (sym (fixed_good s e).head_is) k)

pub read_append : (s t : List ℕ) → (read_header s ≡ Err Short → ⊥) → read_header (s ++ t) ≡ read_header s
read_append s t u = go (dec_le fixed_length (length s))
  where
    go : Dec (fixed_length ≤ length s) → read_header (s ++ t) ≡ read_header s
    go (no k) = absurd (u (read_few s (omega arith)))
    go (yes k) =
        sym (read_enough (length s) (s ++ t) k (λ head message e. long k head message (sym (fixed_append s t k) ∙ e) (dec_le head (length s))))
        ∙ ap read_header (take_at s t (length s) refl)
      where
        long : fixed_length ≤ length s → (head message : ℕ) → fixed_part s ≡ measures head message → Dec (head ≤ length s) → head ≤ length s
        long i head message e (yes l) = l
        long i head message e (no l) = absurd (u (read_short s i e (omega arith)))

-- ---- a whole head

pub record Fitting (s : List ℕ) (d : Header) : Type 0 where
  pub sizes : fixed_part s ≡ measures (head_length s) (message_length s)
  pub head_is : d.head ≡ head_length s
  pub head_low : fixed_length ≤ d.head
  pub head_inside : d.head ≤ length s
  pub head_small : d.head ≤ head_limit
  pub serial_is : d.serial ≡ serial_of s
  pub body_is : d.body ≡ body_length s
  pub path_fits : d.path.at + d.path.len ≤ d.head
  pub interface_fits_lem : d.interface.at + d.interface.len ≤ d.head
  pub member_fits : d.member.at + d.member.len ≤ d.head
  pub destination_fits : d.destination.at + d.destination.len ≤ d.head

-- the fields of a head as long as its array says lie in it
fields_fit : (h : List ℕ) (fs : Fields) → SizedHead h → fields_of h ≡ Some fs → ValuesFit h fs
unfolding fields_of
fields_fit h fs w e = go (all_zero (drop (fixed_length + array_length h) h)) e
  where
    go : (b : Bool) → cond b (fields_in (order_of h) h (fixed_length + array_length h)) None ≡ Some fs → ValuesFit h fs
    go true k = array_fits (order_of h) h (fixed_length + array_length h) fs (rw w.sized (omega arith)) k
    go false k = impossible cc

-- a whole head is that of fields that were found in it
head_whole : (h : List ℕ) (d : Header) → read_head h ≡ Ok d → (fs : Fields) × (fields_of h ≡ Some fs) × (d ≡ header_of h fs)
unfolding read_head
head_whole h d e = go (fields_of h) refl e
  where
    go : (f : Option Fields) → fields_of h ≡ f → or_seven h f ≡ Ok d → (fs : Fields) × (fields_of h ≡ Some fs) × (d ≡ header_of h fs)
    go None i k = impossible cc
    go (Some fs) i k =
        (fs, i, judged_is h fs (λ r. r ≡ Ok d → d ≡ header_of h fs) (λ x. impossible cc) (λ x. impossible cc) (λ x. cc) k)

module _ (s : List ℕ) (d : Header) (u : read_header s ≡ Ok d) (k : fixed_length ≤ length s) {head message : ℕ} (e : fixed_part s ≡ measures head message)
    (l : head ≤ length s) where
  -- a place that is one of the fields'
  in_place : (fs : Fields) (p : Place) (code : ℕ) → p ≡ place_of fs code → ValuesFit (take head s) fs → d.head ≡ head → p.at + p.len ≤ d.head
  in_place fs p code q t o = rw (q, o, ← length-take-le head s l) (t.inside code)

  fitting : Fitting s d
  unfolding header_of
  fitting =
      let g : Good s head message = fixed_good s e in
      let w : SizedHead (take head s) = head_of s e l in
      let f = head_whole (take head s) d (sym (read_whole s k e l) ∙ u) in
      let fs : Fields = f.0 in
      let q : d ≡ header_of (take head s) fs = f.2 in
      let t : ValuesFit (take head s) fs = fields_fit (take head s) fs w f.1 in
      let n : length (take head s) ≡ head = length-take-le head s l in
      let m : fixed_length ≤ head = omega (arith, g.head_is, head_low s) in
      let o : d.head ≡ head_length s = ap (λ (x : Header). x.head) q ∙ head_front head s m in
      let p : d.head ≡ head = o ∙ sym g.head_is in
      record {
        sizes = e ∙ rw (g.head_is, g.message_is);
        head_is = o;
        head_low = omega arith;
        head_inside = omega arith;
        head_small = omega (arith, w.small);
        serial_is = ap (λ (x : Header). x.serial) q ∙ word_in_front head s m 8 (omega arith);
        body_is = ap (λ (x : Header). x.body) q ∙ word_in_front head s m 4 (omega arith);
        path_fits = in_place fs d.path 1 (ap (λ (x : Header). x.path) q) t p;
        interface_fits_lem = in_place fs d.interface 2 (ap (λ (x : Header). x.interface) q) t p;
        member_fits = in_place fs d.member 3 (ap (λ (x : Header). x.member) q) t p;
        destination_fits = in_place fs d.destination 6 (ap (λ (x : Header). x.destination) q) t p;
      }

pub whole_fits : (s : List ℕ) (d : Header) → read_header s ≡ Ok d → Fitting s d
whole_fits s d u = go (dec_le fixed_length (length s))
  where
    sizes : fixed_length ≤ length s → (r : Fixed) → fixed_part s ≡ r → Fitting s d
    sizes k (Err f) e = impossible (cc (read_broken s k e))
    sizes k (Ok z) e = whole (dec_le z.head (length s))
      where
        whole : Dec (z.head ≤ length s) → Fitting s d
        whole (yes l) = fitting s d u k e l
        whole (no l) = impossible (cc (read_short s k e (omega arith)))

    go : Dec (fixed_length ≤ length s) → Fitting s d
    go (yes k) = sizes k (fixed_part s) refl
    go (no k) = impossible (cc (read_few s (omega arith)))
