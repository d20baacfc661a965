-- Good streams stay good: what an open and a closed stream is, what one byte makes of an open one, and what a piece does.
use mathlib.Core.Path.{◌≡◌, refl, sym, ap, ◌∙◌}
use mathlib.Core.Bool.{true, false, false≢true}
use mathlib.Core.List.{List, []}
use Prim.Native.Nat.{ℕ, ◌+◌, ◌≤◌, ◌<◌, min}
use native.Mathlib.Omega.{arith}
use native.Mathlib.Decide.{dec_lt}
use lib.Dec.{eqb}
use lib.ListN.{length}
use borrow.Author.Tests.{lt-ltb, le-ltb, eq-eqb, eqb-true, le-leb, lt-leb}
use Rattle.wire.proofs.Texts.{both_first, both_second, both_true}
use Rattle.header.specs.declared.Header.{Header}
use Rattle.std.specs.Prelude.{Ok, Err}
use Rattle.header.specs.declared.Fault.{Fault}
use Rattle.header.specs.Faults.{fault_number}
use Rattle.header.specs.declared.Unread.TheVariants.{Short, Broken}
use Rattle.header.specs.Fixed.{fixed_length, head_limit, message_limit, head_length}
use Rattle.header.specs.Header.{Reading, read_header}
use Rattle.header.proofs.Front.{head_low}
use Rattle.header.proofs.Readings.{read_few}
use Rattle.stream.specs.Stream.{more}
use Rattle.stream.specs.Tail.{Tail, is_broken, head_end, broken_at, fresh, judge, closed, fitting, good_tail}
use Rattle.stream.proofs.Heads.{Sized, whole_head, Known, few, early, part, late, known}

-- ---- where heads end

pub end_is : (h : List ℕ) → fixed_length ≤ length h → head_end h ≡ head_length h
end_is h l = rw (le-ltb (length h) fixed_length l)

pub sized_end : (h : List ℕ) {head message : ℕ} → fixed_length ≤ length h → Sized h head message → head_end h ≡ head
sized_end h l z = end_is h l ∙ sym z.is_head

-- a short head ends behind its bytes, and in time
pub short_end : (h : List ℕ) → read_header h ≡ Err Short → (length h < head_end h) × (length h < head_limit)
short_end h e = go (known h e)
  where
    go : Known h (Err Short) → (length h < head_end h) × (length h < head_limit)
    go (few l) = (rw (lt-ltb (length h) fixed_length l) l, omega arith)
    go (part l z k) = (rw (sized_end h l z) k, omega (arith, z.small))

-- a broken head is broken where it ends, or its fixed part
pub broken_end : (h : List ℕ) {f : Fault} → read_header h ≡ Err (Broken f) → (fixed_length ≤ length h) × (broken_at (fault_number f) h ≤ head_end h) × (broken_at (fault_number f) h ≤ length h)
    × (broken_at (fault_number f) h ≤ head_limit)
broken_end h {f} e = go (known h e)
  where
    go : Known h (Err (Broken f)) → (fixed_length ≤ length h) × (broken_at (fault_number f) h ≤ head_end h) × (broken_at (fault_number f) h ≤ length h) × (broken_at (fault_number f) h ≤ head_limit)
    go (early l k q) = let b : broken_at (fault_number f) h ≡ fixed_length = rw (le-leb (fault_number f) 6 k) in rw (end_is h l, b) (l, head_low h, l, omega arith)
    go (late l k z i) =
        let b : broken_at (fault_number f) h ≡ head_length h = rw (lt-leb (fault_number f) 6 k) in
        rw (end_is h l, b) (l, omega arith, omega (arith, z.is_head), omega (arith, z.is_head, z.small))

pub whole_end : (h : List ℕ) (x : Header) → read_header h ≡ Ok x → head_end h ≡ x.head
whole_end h x e = let w = whole_head h e in sized_end h (omega (arith, w.inside, w.sizes.above)) w.sizes

-- ---- open and closed streams

-- an open stream is in its message's head, of which every byte is kept, or in its body, and then just the head is kept
pub data Running (t : Tail) : Type 0 where
  in_head : read_header t.head ≡ Err Short → t.taken ≡ length t.head → Running t
  in_body : (x : Header) → read_header t.head ≡ Ok x → length t.head ≡ x.head → x.head ≤ t.taken → t.taken < x.head + x.body → Running t

-- a closed stream ends at the byte that broke its head
pub data Stopped (t : Tail) : Type 0 where
  stopped : (f : Fault) → read_header t.head ≡ Err (Broken f) → t.taken ≡ length t.head → length t.head ≡ broken_at (fault_number f) t.head → Stopped t

pub data Kept (t : Tail) : Type 0 where
  runs : Running t → Kept t
  stops : Stopped t → Kept t

-- a good stream is as its two tests say
module _ (t : Tail) (g : good_tail t ≡ true) where
  pub kept : length t.head ≡ min t.taken (head_end t.head)
  unfolding good_tail
  kept = eqb-true _ _ (both_first (eqb (length t.head) (min t.taken (head_end t.head))) (fitting (judge t) t.taken t.head) g)

  fits : fitting (judge t) t.taken t.head ≡ true
  unfolding good_tail
  fits = both_second (eqb (length t.head) (min t.taken (head_end t.head))) (fitting (judge t) t.taken t.head) g

  pub good_kept : Kept t
  good_kept = go (read_header t.head) refl
    where
      last : (x : Header) → read_header t.head ≡ Ok x → Dec (t.taken < x.head + x.body) → Kept t
      last x e (yes d) =
          let k : length t.head ≡ min t.taken x.head = rw (← whole_end t.head x e) kept in
          let i : x.head ≤ length t.head = (whole_head t.head e).inside in
          runs (in_body x e (omega arith) (omega arith) d)
      last x e (no d) = absurd (false≢true (rw (e, le-ltb t.taken (x.head + x.body) (omega arith)) at fits))

      go : (r : Reading) → read_header t.head ≡ r → Kept t
      go (Err Short) e = let l = short_end t.head e in runs (in_head e (omega (arith, kept)))
      go (Err (Broken f)) e =
          let b = broken_end t.head e in
          let n : t.taken ≡ broken_at (fault_number f) t.head = eqb-true t.taken (broken_at (fault_number f) t.head) (rw e at fits) in
          stops (stopped f e (omega (arith, kept)) (omega (arith, kept)))
      go (Ok x) e = last x e (dec_lt t.taken (x.head + x.body))

-- and back
good_of : (t : Tail) → length t.head ≡ min t.taken (head_end t.head) → fitting (judge t) t.taken t.head ≡ true → good_tail t ≡ true
unfolding good_tail
good_of t k f = both_true (eqb (length t.head) (min t.taken (head_end t.head))) (fitting (judge t) t.taken t.head) (eq-eqb _ _ k) f

pub running_more : (t : Tail) → Running t → judge t ≡ more
running_more t (in_head e n) = rw e
running_more t (in_body x e l n k) = rw (e, lt-ltb t.taken (x.head + x.body) k)

pub running_good : (t : Tail) → Running t → good_tail t ≡ true
running_good t r = good_of t (go r) (rw (running_more t r))
  where
    go : Running t → length t.head ≡ min t.taken (head_end t.head)
    go (in_head e n) = let l = short_end t.head e in omega arith
    go (in_body x e l n k) = rw (whole_end t.head x e) (omega arith)

pub stopped_closed : (t : Tail) → Stopped t → closed t ≡ true
stopped_closed t (stopped a e n k) = rw e

pub stopped_good : (t : Tail) → Stopped t → good_tail t ≡ true
stopped_good t (stopped a e n k) = let b = broken_end t.head e in good_of t (omega arith) (rw e (eq-eqb _ _ (n ∙ k)))

pub open_runs : (t : Tail) → good_tail t ≡ true → closed t ≡ false → Running t
open_runs t g c = go (good_kept t g)
  where
    go : Kept t → Running t
    go (runs r) = r
    go (stops s) = absurd (false≢true (sym c ∙ stopped_closed t s))

-- a good stream that is not closed is open
pub open_more : (t : Tail) → good_tail t ≡ true → closed t ≡ false → judge t ≡ more
open_more t g c = running_more t (open_runs t g c)

pub more_runs : (t : Tail) → good_tail t ≡ true → judge t ≡ more → Running t
more_runs t g o = open_runs t g (ap is_broken o)

-- ---- a fresh stream, and the numbers of a good one

pub fresh_runs : Running fresh
fresh_runs = in_head (read_few [] (omega arith)) refl

pub fresh_good : good_tail fresh ≡ true
fresh_good = running_good fresh fresh_runs

pub fresh_more : judge fresh ≡ more
fresh_more = running_more fresh fresh_runs

pub tail_fits : (t : Tail) → good_tail t ≡ true → (t.taken < message_limit) × (length t.head ≤ head_limit)
tail_fits t g = go (good_kept t g)
  where
    go : Kept t → (t.taken < message_limit) × (length t.head ≤ head_limit)
    go (runs (in_head e n)) = let l = short_end t.head e in (omega arith, omega arith)
    go (runs (in_body x e l n k)) = let w = (whole_head t.head e).sizes in (omega (arith, w.fits), omega (arith, w.small))
    go (stops (stopped a e n k)) = let b = broken_end t.head e in (omega arith, omega arith)
