-- What one byte makes of an open stream, and what a piece leaves of a good one.
use mathlib.Core.Path.{◌≡◌, refl, sym, ap, ◌∙◌, subst, subst⁻¹}
use mathlib.Core.List.{List, [], ◌∷◌, ◌++◌}
use mathlib.Core.Bool.{true}
use Prim.Native.Nat.{ℕ, ◌+◌, ◌≤◌, ◌<◌}
use native.Mathlib.Omega.{arith}
use native.Mathlib.Decide.{dec_lt}
use lib.ListN.{length, take, length-append}
use lib.Seq.{take_all}
use borrow.Author.Tests.{lt-ltb, le-ltb, le-leb, lt-leb}
use Rattle.wire.proofs.Texts.{impossible}
use Rattle.header.specs.declared.Header.{Header}
use Rattle.std.specs.Prelude.{Ok, Err}
use Rattle.header.specs.declared.Fault.{Fault}
use Rattle.header.specs.Faults.{fault_number}
use Rattle.header.specs.declared.Unread.TheVariants.{Short, Broken}
use Rattle.header.specs.declared.Sizes.{Sizes}
use Rattle.header.specs.Fixed.{Fixed, measures, fixed_length, fixed_part}
use Rattle.header.specs.Header.{Reading, read_header}
use Rattle.header.proofs.Front.{fixed_append}
use Rattle.stream.specs.Stream.{Verdict, more, broken, whole, offer, settled}
use Rattle.stream.specs.Tail.{Tail, finished, head_end, broken_at, push, judge, tails, good_tail}
use Rattle.stream.specs.Steps.{follows}
use Rattle.stream.proofs.Offers.{offer_none, offer_step}
use Rattle.stream.proofs.Heads.{sized, whole_head, Known, few, early, part, late, known}
use Rattle.stream.proofs.Good.{short_end, whole_end, Running, in_head, in_body, Stopped, stopped, running_good, stopped_good, more_runs, fresh_good}

-- ---- a byte that joins a short head

-- what the fixed part says that n bytes and one more hold, where the n did not decide
abbrev Ends : ℕ → Fixed → Type 0
Ends n (Err f) = n + 1 ≡ fixed_length
Ends n (Ok x) = n < x.head

module _ (h : List ℕ) (b : ℕ) (e : read_header h ≡ Err Short) where
  longer : length (h ++ (b ∷ [])) ≡ length h + 1
  longer = length-append h (b ∷ [])

  fixed_ends : (f : Fixed) → fixed_part (h ++ (b ∷ [])) ≡ f → fixed_length ≤ length (h ++ (b ∷ [])) → Ends (length h) f
  fixed_ends f q l = go (known h e) f q
    where
      go : Known h (Err Short) → (f : Fixed) → fixed_part (h ++ (b ∷ [])) ≡ f → Ends (length h) f
      go (few k) (Err a) q = omega (arith, longer)
      go (few k) (Ok x) q = omega (arith, (sized (h ++ (b ∷ [])) q).above)
      go (part i z k) (Err a) q =
          let s = sym z.sizes ∙ sym (fixed_append h (b ∷ []) i) ∙ q in
          impossible cc
      go (part {head} {message} i z k) (Ok x) q =
          let s = sym z.sizes ∙ sym (fixed_append h (b ∷ []) i) ∙ q in
          let w : ◌≡◌ {A = Sizes} (record { head = head; message = message }) x = cc s in
          let y : head ≡ x.head = ap (λ (v : Sizes). v.head) w in
          omega arith

  -- the head that it completes or breaks ends with it
  pub completes : (x : Header) → read_header (h ++ (b ∷ [])) ≡ Ok x → length (h ++ (b ∷ [])) ≡ x.head
  completes x f =
      let w = whole_head (h ++ (b ∷ [])) f in
      omega (arith, longer, w.inside, fixed_ends (measures x.head (x.head + x.body)) w.sizes.sizes (omega (arith, w.inside, w.sizes.above)))

  pub breaks : (f : Fault) → read_header (h ++ (b ∷ [])) ≡ Err (Broken f) → length (h ++ (b ∷ [])) ≡ broken_at (fault_number f) (h ++ (b ∷ []))
  breaks f r = go (known (h ++ (b ∷ [])) r)
    where
      go : Known (h ++ (b ∷ [])) (Err (Broken f)) → length (h ++ (b ∷ [])) ≡ broken_at (fault_number f) (h ++ (b ∷ []))
      go (early l k q) = rw (le-leb (fault_number f) 6 k) (omega (arith, longer, fixed_ends (Err f) q l))
      go (late {head} {message} l k z i) = rw (lt-leb (fault_number f) 6 k) (omega (arith, longer, z.is_head, fixed_ends (measures head message) z.sizes l))

-- a byte pushed in the head is kept, and one in the body only counted
pub push_head : (t : Tail) (b : ℕ) → read_header t.head ≡ Err Short → push t b ≡ record { taken = t.taken + 1; head = t.head ++ (b ∷ []) }
push_head t b e = rw (lt-ltb (length t.head) (head_end t.head) (short_end t.head e).0)

pub push_body : (t : Tail) (b : ℕ) (x : Header) → read_header t.head ≡ Ok x → length t.head ≡ x.head
    → push t b ≡ record { taken = t.taken + 1; head = t.head }
push_body t b x e l = rw (le-ltb (length t.head) (head_end t.head) (rw (whole_end t.head x e) (omega arith)))

-- ---- what a verdict says of the stream whose latest byte it judges

abbrev pub Outcome : Verdict → Tail → Type 0
Outcome more t = Running t
Outcome (broken a) t = Stopped t
Outcome (whole h x) t = (read_header h ≡ Ok x) × (length t.head ≡ x.head)

-- a stream that has just its whole head, of which n bytes have come
body_outcome : (n : ℕ) (h : List ℕ) (x : Header) → read_header h ≡ Ok x → length h ≡ x.head → x.head ≤ n
    → Outcome (finished n h (Ok x)) (record { taken = n; head = h })
body_outcome n h x e l k = go (dec_lt n (x.head + x.body))
  where
    go : Dec (n < x.head + x.body) → Outcome (finished n h (Ok x)) (record { taken = n; head = h })
    go (yes d) = rw (lt-ltb n (x.head + x.body) d) (in_body x e l k d)
    go (no d) =
        let q : take x.head h ≡ h = take_all x.head h (omega arith) in
        rw (le-ltb n (x.head + x.body) (omega arith)) (rw q e, l)

pushed : (t : Tail) (b : ℕ) → Running t → Outcome (judge (push t b)) (push t b)
pushed t b (in_head e n) = subst⁻¹ (λ (u : Tail). Outcome (judge u) u) (push_head t b e) (go (read_header (t.head ++ (b ∷ []))) refl)
  where
    n' : t.taken + 1 ≡ length (t.head ++ (b ∷ []))
    n' = rw (length-append t.head (b ∷ []), n)

    go : (r : Reading) → read_header (t.head ++ (b ∷ [])) ≡ r
        → Outcome (finished (t.taken + 1) (t.head ++ (b ∷ [])) r) (record { taken = t.taken + 1; head = t.head ++ (b ∷ []) })
    go (Err Short) f = in_head f n'
    go (Err (Broken a)) f = stopped a f n' (breaks t.head b e a f)
    go (Ok x) f = let l = completes t.head b e x f in body_outcome (t.taken + 1) (t.head ++ (b ∷ [])) x f l (omega (arith, n'))
pushed t b (in_body x e l n k) =
    subst⁻¹ (λ (u : Tail). Outcome (judge u) u) (push_body t b x e l) (rw e (body_outcome (t.taken + 1) t.head x e l (omega arith)))

-- ---- a piece

pub offered : (t : Tail) (p : List ℕ) → Running t → Outcome (offer tails t p).verdict (offer tails t p).stream
offered t [] r = rw (offer_none tails t) r
offered t (b ∷ p) r = rw (offer_step tails t b p) (go (judge (push t b)) (pushed t b r) (offered (push t b) p))
  where
    go : (v : Verdict)
        → Outcome v (push t b)
        → (Running (push t b) → Outcome (offer tails (push t b) p).verdict (offer tails (push t b) p).stream)
        → let o = follows v (push t b) (offer tails (push t b) p) in Outcome o.verdict o.stream
    go more r f = f r
    go (broken a) r f = r
    go (whole h x) r f = r

settled_good : (v : Verdict) (t : Tail) → Outcome v t → good_tail (settled tails v t) ≡ true
settled_good more t r = running_good t r
settled_good (broken a) t s = stopped_good t s
settled_good (whole h x) t w = fresh_good

module _ (t : Tail) (p : List ℕ) (g : good_tail t ≡ true) (o : judge t ≡ more) where
  -- a piece leaves a good stream good
  pub offer_good : good_tail (settled tails (offer tails t p).verdict (offer tails t p).stream) ≡ true
  offer_good = settled_good (offer tails t p).verdict (offer tails t p).stream (offered t p (more_runs t g o))

  -- the head that a whole message hands over is a whole head, and the stream keeps nothing behind it
  pub offer_whole : (h : List ℕ) (x : Header) → (offer tails t p).verdict ≡ whole h x
      → (read_header h ≡ Ok x) × (length (offer tails t p).stream.head ≡ x.head)
  offer_whole h x e = subst (λ (v : Verdict). Outcome v (offer tails t p).stream) e (offered t p (more_runs t g o))
