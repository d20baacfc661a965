-- A verdict stays where each rule gives way to a block of rules: each of the block has the rule's context and verdict, and one of them matches exactly where the
-- rule did. A block may be empty, where the rule does not match.
use mathlib.Core.Path.{◌≡◌, refl, sym}
use mathlib.Core.Bool.{Bool, true, false, cond, not, and-true, and-false}
use mathlib.Core.Option.{Option, none, some}
use Prim.Native.Nat.{ℕ, zero, suc, ◌+◌, ◌≤◌, ◌<◌}
use native.Mathlib.Nat.{add-zero}
use native.Mathlib.Omega.{arith}
use lib.Dec.{leb}
use borrow.Author.Tests.{le-leb}
use Rattle.wire.specs.Lists.{below}
use Rattle.policy.specs.Precedence.{take_over, heard, deciding, rule_verdict}

-- some number below n passes
abbrev pub some_of : (ℕ → Bool) → ℕ → Bool
some_of p n = not (below (λ k. not (p k)) n)

some_more : (p : ℕ → Bool) (n : ℕ) → p n ≡ false → some_of p (suc n) ≡ some_of p n
some_more p n e = rw (e, and-true)

some_here : (p : ℕ → Bool) (n : ℕ) → p n ≡ true → some_of p (suc n) ≡ true
some_here p n e = rw (e, and-false)

module _ (context_of context' : ℕ → ℕ) (matches matches' allows allows' : ℕ → Bool) (start : ℕ → ℕ) where
  -- the rules of block i
  pub record Block (i : ℕ) : Type 0 where
    pub size : ℕ
    pub next : start (suc i) ≡ start i + size
    pub context : (k : ℕ) → k < size → context' (start i + k) ≡ context_of i
    pub verdict : (k : ℕ) → k < size → allows' (start i + k) ≡ allows i
    pub hits : some_of (λ k. matches' (start i + k)) size ≡ matches i

  -- both searches found nothing, or rules of one context and verdict
  data Same : Option ℕ → Option ℕ → Type 0 where
    nothing : Same none none
    alike : {i p : ℕ} → context' p ≡ context_of i → allows' p ≡ allows i → Same (some i) (some p)

  same_verdict : {o o' : Option ℕ} → Same o o' → rule_verdict allows o ≡ rule_verdict allows' o'
  same_verdict nothing = refl
  same_verdict (alike c a) = sym a

  module _ (i p : ℕ) (c : context' p ≡ context_of i) (a : allows' p ≡ allows i) where
    -- the first rule of the block that matches is heard as the rule was
    heard_first : {o o' : Option ℕ} → Same o o' → Same (take_over context_of i o) (take_over context' p o')
    heard_first nothing = alike c a
    heard_first (alike {i = j} {p = q} d b) = go (leb (context_of j) (context_of i)) refl
      where
        go : (t : Bool) → leb (context_of j) (context_of i) ≡ t
            → Same (cond (leb (context_of j) (context_of i)) (some i) (some j)) (cond (leb (context' q) (context' p)) (some p) (some q))
        go true e = rw (d, c, e) (alike c a)
        go false e = rw (d, c, e) (alike d b)

    -- a further one changes nothing
    heard_again : (o : Option ℕ) {o' : Option ℕ} → Same (take_over context_of i o) o' → Same (take_over context_of i o) (take_over context' p o')
    heard_again none (alike {p = q} d b) = rw (d, c, le-leb (context_of i) (context_of i) (omega arith)) (alike c a)
    heard_again (some j) s = go (leb (context_of j) (context_of i)) refl s
      where
        go : (t : Bool) → leb (context_of j) (context_of i) ≡ t → {o' : Option ℕ} → Same (cond t (some i) (some j)) o'
            → Same (cond t (some i) (some j)) (take_over context' p o')
        go true e (alike {p = q} d b) = rw (d, c, le-leb (context_of i) (context_of i) (omega arith)) (alike c a)
        go false e (alike {p = q} d b) = rw (d, c, e) (alike d b)

  module _ (i : ℕ) (block : Block i) (searched : Same (deciding context_of matches i) (deciding context' matches' (start i))) where
    abbrev hit : ℕ → Bool
    hit k = matches' (start i + k)

    abbrev before : Option ℕ
    before = deciding context_of matches i

    one_rule : (k : ℕ) → k < block.size → (b : Bool) → hit k ≡ b → (t : Bool) → some_of hit k ≡ t
        → Same (heard context_of i t before) (deciding context' matches' (start i + k))
        → Same (heard context_of i (some_of hit (suc k)) before) (heard context' (start i + k) b (deciding context' matches' (start i + k)))
    one_rule k l false e t f s = rw (some_more hit k e, f) s
    one_rule k l true e false f s = rw (some_here hit k e) (heard_first i (start i + k) (block.context k l) (block.verdict k l) s)
    one_rule k l true e true f s = rw (some_here hit k e) (heard_again i (start i + k) (block.context k l) (block.verdict k l) before s)

    -- the first k rules of the block
    in_block : (k : ℕ) → k ≤ block.size → Same (heard context_of i (some_of hit k) before) (deciding context' matches' (start i + k))
    unfolding deciding
    in_block zero l = rw (add-zero) searched
    in_block (suc k) l =
        let e : start i + suc k ≡ suc (start i + k) = omega arith in
        rw e (one_rule k (omega arith) (hit k) refl (some_of hit k) refl (in_block k (omega arith)))

    block_over : Same (deciding context_of matches (suc i)) (deciding context' matches' (start (suc i)))
    unfolding deciding
    block_over = rw (block.next, ← block.hits) (in_block block.size (omega arith))

  module _ (begins : start 0 ≡ 0) where
    all_blocks : (n : ℕ) → ((i : ℕ) → i < n → Block i) → Same (deciding context_of matches n) (deciding context' matches' (start n))
    unfolding deciding
    all_blocks zero each = rw begins nothing
    all_blocks (suc n) each = block_over n (each n (omega arith)) (all_blocks n (λ i l. each i (omega arith)))

    pub blocks_verdict : (n : ℕ) → ((i : ℕ) → i < n → Block i)
        → rule_verdict allows (deciding context_of matches n) ≡ rule_verdict allows' (deciding context' matches' (start n))
    blocks_verdict n each = same_verdict (all_blocks n each)
