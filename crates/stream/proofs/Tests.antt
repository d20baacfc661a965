-- `is_good` and `is_closed`, way by way.
use mathlib.Core.Path.{◌≡◌, refl, sym, ap, ◌∙◌}
use mathlib.Core.Bool.{Bool, true, false, cond, ◌&&◌, and-true, and_comm}
use mathlib.Core.List.{List}
use Prim.Native.Nat.{ℕ, ◌-◌, ◌≤◌, ◌<◌, min}
use native.Mathlib.Omega.{arith}
use native.Mathlib.Nat.{sub-zero}
use lib.Dec.{ltb, eqb}
use lib.ListN.{length, take, drop}
use lib.Seq.{length-take-le}
use borrow.Author.Tests.{lt-ltb, eq-eqb, ne_eqb, le-leb, lt-leb, eqb-true}
use Rattle.wire.proofs.Texts.{impossible, agree}
use Rattle.header.specs.declared.Header.{Header}
use Rattle.std.specs.Prelude.{Ok, Err}
use Rattle.header.specs.declared.Fault.{Fault}
use Rattle.header.specs.Faults.{fault_number}
use Rattle.header.specs.declared.Sizes.{Sizes}
use Rattle.header.specs.declared.Unread.{Unread}
use Rattle.header.specs.declared.Unread.TheVariants.{Short, Broken}
use Rattle.header.specs.Fixed.{fixed_length, head_length, Fixed, measures, fixed_part}
use Rattle.header.specs.Header.{Reading, read_header}
use Rattle.header.proofs.Front.{head_low, fixed_number}
use Rattle.header.proofs.Readings.{read_few, read_broken, read_short}
use Rattle.stream.specs.Stream.{more, whole}
use Rattle.stream.specs.Tail.{is_broken, head_end, judge, closed, fitting, good_tail}
use Rattle.stream.specs.declared.Stream.{Stream}
use Rattle.stream.specs.Promises.{tail_in, GoodTail}
use Rattle.stream.specs.Steps.{WholeTail}
use Rattle.stream.proofs.Heads.{Sized, sized, not_short, late_fault}
use Rattle.stream.proofs.Good.{stopped, Kept, runs, stops, good_kept, running_more, end_is, sized_end}
use Rattle.stream.proofs.Gives.{lengths}

-- the head that a stream keeps
abbrev kept : List ℕ → Stream → List ℕ
kept region s = take s.stored region

-- a second test that matters only where the first holds
and_same : (a b c : Bool) → (a ≡ true → b ≡ c) → a && b ≡ a && c
and_same true b c h = h refl
and_same false b c h = refl

module _ (region : List ℕ) (s : Stream) (i : s.stored ≤ length region) where
  is_length : length (kept region s) ≡ s.stored
  is_length = length-take-le s.stored region i

  -- a stream is good by two tests: of where its head ends, and of its verdict
  good_is : (end : ℕ) (b : Bool) → head_end (kept region s) ≡ end → fitting (judge (tail_in region s)) s.taken (kept region s) ≡ b
      → good_tail (tail_in region s) ≡ (eqb s.stored (min s.taken end) && b)
  unfolding good_tail
  good_is end b e f = λ j. eqb (is_length j) (min s.taken (e j)) && f j

  not_good : (end : ℕ) → head_end (kept region s) ≡ end → (s.stored ≡ min s.taken end → ⊥) → false ≡ good_tail (tail_in region s)
  not_good end e n = sym (good_is end (fitting (judge (tail_in region s)) s.taken (kept region s)) e refl ∙ rw (ne_eqb s.stored (min s.taken end) n))

  -- in the head every byte is kept
  unread : (end : ℕ) → head_end (kept region s) ≡ end → read_header (kept region s) ≡ Err Short → s.stored < end
      → eqb s.taken s.stored ≡ good_tail (tail_in region s)
  unread end e q l =
      agree (eqb s.taken s.stored) (eqb s.stored (min s.taken end)) (omega (arith, eqb-true, eq-eqb)) (omega (arith, eqb-true, eq-eqb))
      ∙ sym (good_is end true e (rw q) ∙ and-true (eqb s.stored (min s.taken end)))

  pub good_few : s.stored < fixed_length → eqb s.taken s.stored ≡ good_tail (tail_in region s)
  good_few l = unread fixed_length (rw (is_length, lt-ltb s.stored fixed_length l)) (read_few (kept region s) (rw is_length l)) l

  module _ (a : fixed_length ≤ s.stored) where
    is_above : fixed_length ≤ length (kept region s)
    is_above = rw is_length a

    pub long_head : fixed_length ≤ length (take (s.stored - 0) (drop 0 region))
    long_head = rw sub-zero is_above

    module _ {f : Fixed} (e : f ≡ fixed_part (take (s.stored - 0) (drop 0 region))) where
      is_fixed : fixed_part (kept region s) ≡ f
      is_fixed = sym (rw sub-zero at e)

      pub good_fault : {n : Fault} → f ≡ Err n → (eqb s.taken fixed_length && eqb s.stored fixed_length) ≡ good_tail (tail_in region s)
      good_fault {n} q =
          let h : fixed_length ≤ head_length (kept region s) = head_low (kept region s) in
          let r : read_header (kept region s) ≡ Err (Broken n) = read_broken (kept region s) is_above (is_fixed ∙ q) in
          let l = head_length (kept region s) in
          and_same (eqb s.taken fixed_length) (eqb s.stored fixed_length) (eqb s.stored (min s.taken l))
          (λ p. agree (eqb s.stored fixed_length) (eqb s.stored (min s.taken l)) (omega (arith, eqb-true, eq-eqb)) (omega (arith, eqb-true, eq-eqb)))
          ∙ and_comm (eqb s.taken fixed_length) (eqb s.stored (min s.taken l))
          ∙ sym (good_is l (eqb s.taken fixed_length) (end_is (kept region s) is_above) (rw (r, le-leb (fault_number n) 6 (fixed_number (kept region s) (is_fixed ∙ q)).1)))

      module _ {x : Sizes} (q : f ≡ Ok x) where
        abbrev end : ℕ
        end = x.head

        is_end : head_end (kept region s) ≡ end
        is_end = sized_end (kept region s) is_above (sized (kept region s) (is_fixed ∙ q))

        pub good_part : s.stored < end → eqb s.taken s.stored ≡ good_tail (tail_in region s)
        good_part l = unread end is_end (read_short (kept region s) is_above (is_fixed ∙ q) (rw is_length l)) l

        pub good_past : end < s.stored → false ≡ good_tail (tail_in region s)
        good_past l = not_good end is_end (λ p. omega arith)

        module _ (l : end ≤ s.stored) (m : s.stored ≤ end) where
          pub good_below : s.taken < end → false ≡ good_tail (tail_in region s)
          good_below n = not_good end is_end (λ p. omega arith)

          pub good_whole : end ≤ s.taken → WholeTail region s x.message
          good_whole n =
              let z : end ≡ s.stored = omega arith in
              record { inside = i; above = a; sizes = is_fixed ∙ q ∙ ap (λ (k : ℕ). measures k x.message) z; reached = omega arith }

-- ---- a whole head

module _ {region : List ℕ} {s : Stream} {message : ℕ} (w : WholeTail region s message)
    {r : Reading} (e : r ≡ read_header (take (s.stored - 0) (drop 0 region))) where
  whole_read : read_header (kept region s) ≡ r
  whole_read = sym (rw sub-zero at e)

  whole_length : length (kept region s) ≡ s.stored
  whole_length = is_length region s w.inside

  whole_above : fixed_length ≤ length (kept region s)
  whole_above = rw whole_length w.above

  whole_sized : Sized (kept region s) s.stored message
  whole_sized = sized (kept region s) w.sizes

  -- all that is left is the verdict
  whole_good : (b : Bool) → fitting (judge (tail_in region s)) s.taken (kept region s) ≡ b → b ≡ good_tail (tail_in region s)
  whole_good b f =
      sym (good_is region s w.inside s.stored b (sized_end (kept region s) whole_above whole_sized) f
      ∙ rw (eq-eqb s.stored (min s.taken s.stored) (omega (arith, w.reached))))

  pub whole_short : {u : Unread} → r ≡ Err u → u ≡ Short → false ≡ good_tail (tail_in region s)
  whole_short q g = absurd (not_short (kept region s) whole_above w.sizes (omega (arith, whole_length)) (whole_read ∙ q ∙ ap (λ (v : Unread). Err v) g))

  pub whole_broken : {u : Unread} {n : Fault} → r ≡ Err u → u ≡ Broken n → eqb s.taken s.stored ≡ good_tail (tail_in region s)
  whole_broken {u} {n} q g =
      let b : read_header (kept region s) ≡ Err (Broken n) = whole_read ∙ q ∙ ap (λ (v : Unread). Err v) g in
      let v : 6 < fault_number n = late_fault (kept region s) whole_above w.sizes (omega (arith, whole_length)) b in
      whole_good (eqb s.taken s.stored) (rw (b, lt-leb (fault_number n) 6 v, ← whole_sized.is_head))

  pub whole_body : {x : Header} → r ≡ Ok x → ltb s.taken message ≡ good_tail (tail_in region s)
  whole_body {x} q =
      whole_good (ltb s.taken message)
      (rw (whole_read ∙ q, (lengths (kept region s) x s.stored message (whole_read ∙ q) w.sizes).1) (either (ltb s.taken message)))
    where
      either : (b : Bool) → fitting (cond b more (whole (take x.head (kept region s)) x)) s.taken (kept region s) ≡ b
      either true = refl
      either false = refl

-- ---- closed streams

module _ {region : List ℕ} {s : Stream} (g : GoodTail region s) where
  closed_length : length (kept region s) ≡ s.stored
  closed_length = is_length region s g.inside

  -- a stream is open unless its head is broken by its last byte
  open_unless : ((f : Fault) → read_header (kept region s) ≡ Err (Broken f) → s.taken ≡ s.stored → ⊥) → false ≡ closed (tail_in region s)
  open_unless h = go (good_kept (tail_in region s) g.good)
    where
      go : Kept (tail_in region s) → false ≡ closed (tail_in region s)
      go (runs r) = sym (ap is_broken (running_more (tail_in region s) r))
      go (stops (stopped a e n k)) = absurd (h a e (n ∙ closed_length))

  pub closed_few : s.stored < fixed_length → false ≡ closed (tail_in region s)
  closed_few l = sym (rw (read_few (kept region s) (rw closed_length l)))

  pub closed_body : s.stored < s.taken → false ≡ closed (tail_in region s)
  closed_body l = open_unless (λ a e n. omega arith)

  module _ {r : Reading} (e : r ≡ read_header (take (s.stored - 0) (drop 0 region))) where
    closed_read : read_header (kept region s) ≡ r
    closed_read = sym (rw sub-zero at e)

    pub closed_short : {u : Unread} → r ≡ Err u → u ≡ Short → false ≡ closed (tail_in region s)
    closed_short q g = sym (rw (closed_read ∙ q ∙ ap (λ (v : Unread). Err v) g))

    pub closed_broken : {u : Unread} {n : Fault} → r ≡ Err u → u ≡ Broken n → true ≡ closed (tail_in region s)
    closed_broken q g = sym (rw (closed_read ∙ q ∙ ap (λ (v : Unread). Err v) g))

    pub closed_whole : {x : Header} → r ≡ Ok x → false ≡ closed (tail_in region s)
    closed_whole q = open_unless (λ a f n. impossible (cc closed_read))
