-- The search of a section, from its last rule to its first and from the highest context to the lowest.
use Rattle.std.proofs.Common.{◌≡◌, ℕ, zero, suc, ◌+◌, ◌-◌, ◌*◌, ◌/◌, ◌≤◌, ◌<◌, Bool, true, false, List, length, get_or, eqb, refl, sym, rules, arith, ◌∙◌}
use mathlib.Core.Bool.{false≢true}
use mathlib.Core.Logic.{⊎_elim}
use mathlib.Core.Option.{some}
use mathlib.Core.Path.{subst}
use native.Mathlib.Nat.{eq-or-lt_of_le, mul-suc, mul-div_cancel_left}
use Rattle.image.specs.Image.{rule_count, rule_offset, rule_size, rule_place}
use Rattle.image.specs.Promises.{GoodImage}
use Rattle.image.specs.declared.Section.{Section}
use Rattle.image.specs.declared.Section.TheVariants.{Connect, Own, Transaction}
use Rattle.image.proofs.RuleHolds.{rule_context, rule_verdict_lem, own_holds, transaction_holds}
use Rattle.policy.specs.Precedence.{deciding}
use Rattle.policy.specs.Decisions.{context_in, decides_in, decision_in}
use Rattle.policy.specs.declared.Decider.TheVariants.{Nobody, Rule}
use Rattle.policy.proofs.Precedence.{Searching, begin, down, over, pass, found}
use Rattle.header.specs.declared.Header.{Header}
use Rattle.matching.specs.Promises.{OwnAt, TransactionAt, RuleAsked}
use Rattle.decide.specs.Promises.{Asked, Tells, NoneFrom, IsLast}

-- ---- where rules stand

-- a rule stands inside the image, and the numbers on the way to its place fit
pub record Stands (s : Section) (image : List ℕ) (k : ℕ) : Type 0 where
  pub room : rule_offset s image + rule_size s * k + rule_size s ≤ length image
  pub small : length image ≤ 65536
  pub wide : 8 ≤ rule_size s
  pub narrow : rule_size s * k ≤ 65536

module _ {image : List ℕ} (g : GoodImage image) where
  pub stands : (s : Section) (k : ℕ) → k < rule_count s image → Stands s image k
  stands Connect k l =
      record { room = omega (arith, g.header); small = g.header.high; wide = omega arith; narrow = omega (arith, g.header.connects) }
  stands Own k l =
      record { room = (own_holds g k l).place; small = g.header.high; wide = omega arith; narrow = omega (arith, g.header.owns) }
  stands Transaction k l =
      record { room = (transaction_holds g k l).place; small = g.header.high; wide = omega arith; narrow = omega (arith, g.header.transactions) }

-- ---- down through the rules of a context

-- the rules from k on have been gone through, and `at` is where rule k begins: none of them is of the context and matches
pub record Left (tells : ℕ → Bool → Type 0) (s : Section) (image : List ℕ) (context at : ℕ) : Type 0 where
  pub k : ℕ
  pub inside : k ≤ rule_count s image
  pub place : at ≡ rule_place s image k
  pub none : (matches : ℕ → Bool) → Tells tells s image matches → NoneFrom (context_in s image) matches context (rule_count s image) k

pub left_begins : (tells : ℕ → Bool → Type 0) (s : Section) (image : List ℕ) (context : ℕ) {from size n : ℕ} → from ≡ rule_offset s image
    → size ≡ rule_size s → n ≡ rule_count s image → Left tells s image context (from + size * n)
left_begins tells s image context o w e =
    record { k = rule_count s image; inside = omega arith; place = rw (o, w, e); none = λ matches t j l h. absurd (omega arith) }

wide : (s : Section) → 0 < rule_size s
wide Connect = omega arith
wide Own = omega arith
wide Transaction = omega arith

none_below : (size base at i : ℕ) → 0 < size → at ≡ base + size * i → at ≡ base → i ≡ 0
none_below size base at zero w e z = refl
none_below size base at (suc i) w e z = absurd (omega (arith, rw mul-suc at e))

one_below : (size base at i : ℕ) → at ≡ base + size * i → (i ≡ 0 → ⊥) → base + size * (i - 1) ≡ at - size
one_below size base at zero e n = absurd (n refl)
one_below size base at (suc i) e n = let p : suc i - 1 ≡ i = omega arith in rw p (omega (arith, rw mul-suc at e))

one_fits : (size base at i : ℕ) → at ≡ base + size * i → (i ≡ 0 → ⊥) → size ≤ at
one_fits size base at zero e n = absurd (n refl)
one_fits size base at (suc i) e n = omega (arith, rw mul-suc at e)

position : (size base i : ℕ) → 0 < size → (base + size * i - base) / size ≡ i
position size base i w = let q : base + size * i - base ≡ size * i = omega arith in rw q (mul-div_cancel_left i w)

module _ {tells : ℕ → Bool → Type 0} {s : Section} {image : List ℕ} {context at : ℕ} (u : Left tells s image context at) {from : ℕ}
    (o : from ≡ rule_offset s image) where
  pub left_over : at ≤ from → (matches : ℕ → Bool) → Tells tells s image matches
      → NoneFrom (context_in s image) matches context (rule_count s image) 0
  left_over z matches t =
      let e : u.k ≡ 0 = none_below (rule_size s) (rule_offset s image) at u.k (wide s) u.place (omega (arith, u.place, o)) in rw e at (u.none matches t)

  module _ (z : from < at) {size : ℕ} (w : size ≡ rule_size s) where
    more : u.k ≡ 0 → ⊥
    more e = let p : at ≡ from = u.place ∙ rw e (omega (arith, o)) in omega arith

    pub here : rule_place s image (u.k - 1) ≡ at - size
    here = rw w (one_below (rule_size s) (rule_offset s image) at u.k u.place more)

    pub room_below : size ≤ at
    room_below = rw w (one_fits (rule_size s) (rule_offset s image) at u.k u.place more)

    pub below : u.k - 1 < rule_count s image
    below = let m : u.k ≡ 0 → ⊥ = more in omega (arith, u.inside)

    -- where the rule below stands
    pub stands_below : GoodImage image → Stands s image (u.k - 1)
    stands_below g = stands g s (u.k - 1) below

    pub counted : (at - size - from) / size ≡ u.k - 1
    counted = rw (← here, o, w) (position (rule_size s) (rule_offset s image) (u.k - 1) (wide s))

    -- it is of another context, or does not match
    pub left_more : (get_or image (at - size) 0 ≡ context → (r : Bool) × tells (at - size) r × (r ≡ false)) → Left tells s image context (at - size)
    left_more d =
        record {
          k = u.k - 1;
          inside = omega (arith, u.inside);
          place = sym here;
          none = λ matches t j l h e.
              ⊎_elim
              (λ (q : u.k - 1 ≡ j).
              let y = d (rw (← here, q) e) in
              rw (← q) (sym (t (u.k - 1) below y.0 (rw here y.1)) ∙ y.2))
              (λ (q : u.k - 1 < j). u.none matches t j (omega arith) h e)
              (eq-or-lt_of_le l);
        }

    -- it is the last one
    pub left_found : get_or image (at - size) 0 ≡ context → {r : Bool} → tells (at - size) r → r ≡ true → (matches : ℕ → Bool)
        → Tells tells s image matches → IsLast (context_in s image) matches context (rule_count s image) ((at - size - from) / size)
    left_found e {r} y f matches t =
        rw counted
        record {
          inside = below;
          here = rw here e;
          fits = sym (t (u.k - 1) below r (rw here y)) ∙ f;
          none_behind = λ j l h q. u.none matches t j (omega arith) h q;
        }

-- ---- down through the contexts

-- the search has come to the contexts below c, each with all its rules; below 0 there is none, and all has been gone through
abbrev pub SearchingBelow : Section → List ℕ → (ℕ → Bool) → ℕ → Type 0
SearchingBelow s image matches zero = Searching (context_in s image) matches (rule_count s image) 0 0
SearchingBelow s image matches (suc c) = Searching (context_in s image) matches (rule_count s image) c (rule_count s image)

few : {image : List ℕ} → GoodImage image → (s : Section) → rule_count s image ≤ 512
few g Connect = omega (arith, g.header.connects)
few g Own = omega (arith, g.header.owns)
few g Transaction = g.header.transactions

pub above_begins : {image : List ℕ} → GoodImage image → (s : Section) (matches : ℕ → Bool) → SearchingBelow s image matches 4
above_begins g s matches = begin (omega (arith, few g s)) (λ j l. omega (arith, rule_context g s j l))

-- the search passes the rules from a position on, of which none is of the context and matches
passed : {context_of : ℕ → ℕ} {matches : ℕ → Bool} {n context : ℕ} (low d : ℕ) → Searching context_of matches n context (low + d)
    → NoneFrom context_of matches context n low → Searching context_of matches n context low
passed low zero u v = let e : low + 0 ≡ low = omega arith in rw e at u
passed low (suc d) u v =
    let e : low + suc d - 1 ≡ low + d = omega arith in
    passed low d
    (rw e at (pass u (λ z. omega arith) (λ h m. false≢true (sym (v (low + suc d - 1) (omega arith) (omega (arith, u.inside)) h) ∙ m)))) v

module _ (s : Section) (image : List ℕ) (matches : ℕ → Bool) where
  pub above_over : (c : ℕ) → c ≤ 0 → SearchingBelow s image matches c → record { allow = false; rule = Nobody } ≡ decision_in s image (decides_in s image matches)
  unfolding decides_in
  above_over zero z u = rw (over u refl refl)
  above_over (suc c) z u = absurd (omega arith)

  -- from a context to the next
  next : (c : ℕ) → Searching (context_in s image) matches (rule_count s image) c 0 → SearchingBelow s image matches c
  next zero u = u
  next (suc c) u = let e : suc c - 1 ≡ c = omega arith in rw e at (down u refl (λ z. omega arith))

  pub above_more : (c d : ℕ) {context : ℕ} → d + 1 ≡ c → context ≡ d → SearchingBelow s image matches c
      → NoneFrom (context_in s image) matches context (rule_count s image) 0 → SearchingBelow s image matches d
  above_more zero d z e u v = absurd (omega arith)
  above_more (suc c) d z e u v =
      let q : d ≡ c = omega arith in
      let all : rule_count s image ≡ 0 + rule_count s image = omega arith in
      rw q
      (next c (passed 0 (rule_count s image) (subst (Searching (context_in s image) matches (rule_count s image) c) all u) (rw (e, q) at v)))

  first : {c i : ℕ} → Searching (context_in s image) matches (rule_count s image) c (rule_count s image)
      → IsLast (context_in s image) matches c (rule_count s image) i → deciding (context_in s image) matches (rule_count s image) ≡ some i
  first {c} {i} u k =
      let e : rule_count s image ≡ i + 1 + (rule_count s image - (i + 1)) = omega (arith, k.inside) in
      let p : i + 1 - 1 ≡ i = omega arith in
      rw p at (found (passed (i + 1) (rule_count s image - (i + 1)) (subst (Searching (context_in s image) matches (rule_count s image) c) e u) k.none_behind)
      (λ z. omega arith) (rw p k.here) (rw p k.fits))

  pub above_found : (c d : ℕ) {context i : ℕ} → d + 1 ≡ c → context ≡ d → SearchingBelow s image matches c
      → IsLast (context_in s image) matches context (rule_count s image) i
      → record { allow = eqb (get_or image (rule_place s image i + 1) 0) 1; rule = Rule s i } ≡ decision_in s image (decides_in s image matches)
  unfolding decides_in
  above_found zero d z e u k = absurd (omega arith)
  above_found (suc c) d z e u k = let q : d ≡ c = omega arith in rw (first u (rw (e, q) at k))

-- ---- where the rules of a good image may be read

pub own_at : {image : List ℕ} → GoodImage image → (k : ℕ) → k < rule_count Own image → OwnAt image (rule_place Own image k)
own_at g k l =
    let h = own_holds g k l in
    record { room = h.place; name = record { header = g.header.low; room = omega (arith, h.place); inside = h.name } }

transaction_at : {image : List ℕ} → GoodImage image → (k : ℕ) → k < rule_count Transaction image → TransactionAt image (rule_place Transaction image k)
transaction_at g k l =
    let h = transaction_holds g k l in
    record {
      room = h.place;
      name = record { header = g.header.low; room = omega (arith, h.place); inside = h.name };
      path = record { header = g.header.low; room = omega (arith, h.place); inside = h.path };
      interface = record { header = g.header.low; room = omega (arith, h.place); inside = h.interface };
      member = record { header = g.header.low; room = omega (arith, h.place); inside = h.member };
    }

pub rule_asked : {image head : List ℕ} {m : Header} → Asked image head m → (k : ℕ) → k < rule_count Transaction image
    → RuleAsked image (rule_place Transaction image k) head m
rule_asked a k l = record { rule = transaction_at a.good k l; within = a.within }
