-- A piece in bulk: bytes of a head are stored up to a limit, and those of a body are counted.
use mathlib.Core.Path.{◌≡◌, sym, ap, ap₂, ◌∙◌}
use mathlib.Core.List.{List, [], ◌∷◌, ◌++◌, append_assoc, append-nil}
use Prim.Native.Nat.{ℕ, zero, suc, ◌+◌, ◌-◌, ◌≤◌, ◌<◌, min}
use native.Mathlib.Omega.{arith}
use native.Mathlib.Nat.{add-zero, zero-add}
use native.Mathlib.Decide.{dec_lt}
use lib.ListN.{length, take, drop, length-append, length-take}
use lib.Seq.{take_all}
use borrow.Author.Tests.{lt-ltb, le-ltb}
use Rattle.header.specs.declared.Header.{Header}
use Rattle.std.specs.Prelude.{Ok, Err}
use Rattle.header.specs.declared.Fault.{Fault}
use Rattle.header.specs.Faults.{fault_number}
use Rattle.header.specs.declared.Unread.TheVariants.{Short, Broken}
use Rattle.header.specs.Fixed.{fixed_length, fixed_part, measures}
use Rattle.header.specs.Header.{read_header}
use Rattle.header.proofs.Front.{fixed_append}
use Rattle.header.proofs.Readings.{read_few, read_short}
use Rattle.stream.specs.Stream.{Verdict, more, broken, whole, Offer, bump, offer}
use Rattle.stream.specs.Tail.{Tail, push, judge, tails}
use Rattle.stream.specs.Steps.{follows, bump_by, continued}
use Rattle.stream.proofs.Offers.{offer_none, offer_step}
use Rattle.stream.proofs.Pushes.{push_head, push_body}

abbrev tail : ℕ → List ℕ → Tail
tail n h = record { taken = n; head = h }

pub continued_more : (t : Tail) (p : List ℕ) → judge t ≡ more → continued t p ≡ offer tails t p
unfolding continued
continued_more t p e = ap (λ (v : Verdict). follows v t (offer tails t p)) e

continued_step : (t : Tail) (b : ℕ) (p : List ℕ) → judge t ≡ more → continued t (b ∷ p) ≡ bump (continued (push t b) p)
unfolding continued
continued_step t b p e = continued_more t (b ∷ p) e ∙ offer_step tails t b p

bump_by_lem : (k : ℕ) (o : Offer Tail) → bump (bump_by k o) ≡ bump_by (suc k) o
bump_by_lem k o = let e : suc (k + o.taken) ≡ suc k + o.taken = omega arith in λ i. record { verdict = o.verdict; taken = e i; stream = o.stream }

pub bump_none : (o : Offer Tail) → o ≡ bump_by 0 o
bump_none o = let e = sym (zero-add o.taken) in λ i. record { verdict = o.verdict; taken = e i; stream = o.stream }

-- k bytes are stored, none of which but the last completes the head or its fixed part
pub stored_bytes : (k n : ℕ) (h p : List ℕ) → k ≤ length p → ((j : ℕ) → j < k → read_header (h ++ take j p) ≡ Err Short)
    → continued (tail n h) p ≡ bump_by k (continued (tail (n + k) (h ++ take k p)) (drop k p))
stored_bytes zero n h p l s = rw (add-zero n, append-nil {A = ℕ} h) (bump_none (continued (tail n h) p))
stored_bytes (suc k) n h [] l s = absurd (omega arith)
stored_bytes (suc k) n h (b ∷ p) l s =
    let e : n + 1 + k ≡ n + suc k = omega arith in
    let z : read_header h ≡ Err Short = rw (append-nil {A = ℕ} h) at (s 0 (omega arith)) in
    continued_step (tail n h) b p (rw z)
    ∙ ap (λ (t : Tail). bump (continued t p)) (push_head (tail n h) b z)
    ∙ ap bump (stored_bytes k (n + 1) (h ++ (b ∷ [])) p (omega arith) (λ j i. ap read_header (append_assoc h (b ∷ []) (take j p)) ∙ s (suc j) (omega arith)))
    ∙ bump_by_lem k (continued (tail (n + 1 + k) ((h ++ (b ∷ [])) ++ take k p)) (drop k p))
    ∙ ap₂ (λ (i : ℕ) (x : List ℕ). bump_by (suc k) (continued (tail i x) (drop k p))) e (append_assoc h (b ∷ []) (take k p))

-- the fixed part: up to 16 bytes
pub stored_fixed : (k n : ℕ) (h p : List ℕ) → k ≤ length p → length h + k ≤ fixed_length
    → continued (tail n h) p ≡ bump_by k (continued (tail (n + k) (h ++ take k p)) (drop k p))
stored_fixed k n h p l m =
    stored_bytes k n h p l (λ j i. read_few (h ++ take j p) (omega (arith, length-append h (take j p), length-take j p)))

-- the rest of the head: up to the length that the fixed part says
pub stored_head : (k n : ℕ) (h p : List ℕ) (hd m : ℕ) → k ≤ length p → fixed_length ≤ length h → fixed_part h ≡ measures hd m → length h + k ≤ hd
    → continued (tail n h) p ≡ bump_by k (continued (tail (n + k) (h ++ take k p)) (drop k p))
stored_head k n h p hd m l a f e =
    stored_bytes k n h p l
    (λ j i.
    let q : length (h ++ take j p) ≡ length h + min j (length p) = length-append h (take j p) ∙ ap (λ (z : ℕ). length h + z) (length-take j p) in
    read_short (h ++ take j p) (omega arith) (fixed_append h (take j p) a ∙ f) (omega arith))

-- the body: its bytes are counted
module _ (h : List ℕ) (x : Header) (e : read_header h ≡ Ok x) (l : length h ≡ x.head) where
  judge_open : (n : ℕ) → n < x.head + x.body → judge (tail n h) ≡ more
  judge_open n k = rw (e, lt-ltb n (x.head + x.body) k)

  pub counted : (n : ℕ) (q : List ℕ) → n + length q < x.head + x.body
      → continued (tail n h) q ≡ record { verdict = more; taken = length q; stream = tail (n + length q) h }
  counted n [] k = continued_more (tail n h) [] (judge_open n (omega arith)) ∙ offer_none tails (tail n h) ∙ rw (add-zero n)
  counted n (b ∷ q) k =
      let p : n + 1 + length q ≡ n + suc (length q) = omega arith in
      continued_step (tail n h) b q (judge_open n (omega arith))
      ∙ ap (λ (t : Tail). bump (continued t q)) (push_body (tail n h) b x e l)
      ∙ ap bump (counted (n + 1) q (omega arith))
      ∙ (λ i. record { verdict = more; taken = suc (length q); stream = tail (p i) h })

  continued_whole : (n : ℕ) (q : List ℕ) → n ≡ x.head + x.body
      → continued (tail n h) q ≡ record { verdict = whole h x; taken = x.head + x.body - n; stream = tail (x.head + x.body) h }
  unfolding continued
  continued_whole n q k =
      let z : 0 ≡ x.head + x.body - n = omega arith in
      let j : judge (tail n h) ≡ whole h x = rw (e, le-ltb n (x.head + x.body) (omega arith), take_all x.head h (omega arith)) in
      ap (λ (v : Verdict). follows v (tail n h) (offer tails (tail n h) q)) j
      ∙ (λ i. record { verdict = whole h x; taken = z i; stream = tail (k i) h })

  pub ended : (n : ℕ) (q : List ℕ) → n ≤ x.head + x.body → x.head + x.body ≤ n + length q
      → continued (tail n h) q ≡ record { verdict = whole h x; taken = x.head + x.body - n; stream = tail (x.head + x.body) h }
  ended n [] k m = continued_whole n [] (omega arith)
  ended n (b ∷ q) k m = go (dec_lt n (x.head + x.body)) (λ i. ended (n + 1) q i (omega arith))
    where
      go : Dec (n < x.head + x.body)
          → (n + 1 ≤ x.head + x.body
          → continued (tail (n + 1) h) q ≡ record { verdict = whole h x; taken = x.head + x.body - (n + 1); stream = tail (x.head + x.body) h })
          → continued (tail n h) (b ∷ q) ≡ record { verdict = whole h x; taken = x.head + x.body - n; stream = tail (x.head + x.body) h }
      go (yes d) f =
          let p : suc (x.head + x.body - (n + 1)) ≡ x.head + x.body - n = omega arith in
          continued_step (tail n h) b q (judge_open n d)
          ∙ ap (λ (t : Tail). bump (continued t q)) (push_body (tail n h) b x e l)
          ∙ ap bump (f (omega arith))
          ∙ (λ i. record { verdict = whole h x; taken = p i; stream = tail (x.head + x.body) h })
      go (no d) f = continued_whole n (b ∷ q) (omega arith)

pub continued_broken : (n : ℕ) (h q : List ℕ) (f : Fault) → read_header h ≡ Err (Broken f)
    → continued (tail n h) q ≡ record { verdict = broken (fault_number f); taken = 0; stream = tail n h }
unfolding continued
continued_broken n h q f e = rw e

pub continued_short : (n : ℕ) (h : List ℕ) → read_header h ≡ Err Short → continued (tail n h) [] ≡ record { verdict = more; taken = 0; stream = tail n h }
continued_short n h e = continued_more (tail n h) [] (rw e) ∙ offer_none tails (tail n h)
