-- A message that is whole in one piece, on a stream between two messages: what the offer comes to, without a byte of it stored.
use mathlib.Core.Path.{◌≡◌, refl, sym, ap, ◌∙◌}
use mathlib.Core.Bool.{true}
use mathlib.Core.List.{List, [], ◌∷◌}
use Prim.Native.Nat.{ℕ, ◌+◌, ◌-◌, ◌≤◌, ◌<◌}
use native.Mathlib.Omega.{arith}
use native.Mathlib.Decide.{dec_lt}
use lib.ListN.{length, take, drop, length-drop}
use lib.Seq.{length-take-le}
use Rattle.header.specs.declared.Header.{Header}
use Rattle.std.specs.Prelude.{Ok, Err}
use Rattle.header.specs.declared.Unread.TheVariants.{Short}
use Rattle.header.specs.Header.{read_header}
use Rattle.header.proofs.Front.{fixed_front}
use Rattle.header.proofs.Readings.{read_few, read_short, read_front, whole_fits, Fitting}
use Rattle.stream.specs.Stream.{whole, offer}
use Rattle.stream.specs.Tail.{Tail, tails, fresh, good_tail}
use Rattle.stream.specs.Steps.{bump_by}
use Rattle.stream.proofs.Good.{kept, fresh_more}
use Rattle.stream.proofs.Phases.{continued_more, stored_bytes, ended}
use Rattle.header.specs.Fixed.{fixed_length}

-- fewer bytes than the head are no head yet
short_front : (p : List ℕ) (x : Header) → Fitting p x → (j : ℕ) → j < x.head → read_header (take j p) ≡ Err Short
short_front p x f j h = go (dec_lt j fixed_length)
  where
    long : length (take j p) ≡ j
    long = length-take-le j p (omega (arith, f.head_inside))

    go : Dec (j < fixed_length) → read_header (take j p) ≡ Err Short
    go (yes k) = read_few (take j p) (omega (arith, long))
    go (no k) = read_short (take j p) (omega (arith, long)) (fixed_front j p (omega arith) ∙ f.sizes) (omega (arith, long, f.head_is))

-- the offer of a piece that begins with a whole message
pub offer_once : (p : List ℕ) (x : Header) → read_header p ≡ Ok x → x.head + x.body ≤ length p
    → offer tails fresh p
    ≡ record {
      verdict = whole (take x.head p) x;
      taken = x.head + x.body;
      stream = record { taken = x.head + x.body; head = take x.head p };
    }
offer_once p x e l =
    let f = whole_fits p x e in
    let h = take x.head p in
    let n : length h ≡ x.head = length-take-le x.head p f.head_inside in
    let r : read_header h ≡ Ok x = read_front x.head p f.head_low (omega (arith, f.head_is)) ∙ e in
    let t : x.head + (x.head + x.body - (0 + x.head)) ≡ x.head + x.body = omega arith in
    sym (continued_more fresh p fresh_more)
    ∙ stored_bytes x.head 0 [] p f.head_inside (λ j i. short_front p x f j i)
    ∙ ap (bump_by x.head) (ended h x r n (0 + x.head) (drop x.head p) (omega arith) (omega (arith, length-drop x.head p)))
    ∙ (λ i. record { verdict = whole h x; taken = t i; stream = record { taken = x.head + x.body; head = h } })

no_bytes : (h : List ℕ) → length h ≡ 0 → h ≡ []
no_bytes [] e = refl
no_bytes (b ∷ h) e = absurd (omega arith)

-- a good stream of which no byte was taken is a fresh one
pub none_taken : (t : Tail) → good_tail t ≡ true → t.taken ≡ 0 → t ≡ fresh
none_taken t g e =
    let n : length t.head ≡ 0 = omega (arith, kept t g) in
    λ i. record { taken = e i; head = no_bytes t.head n i }
