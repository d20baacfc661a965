-- Numbers of eight bytes, which are two of four: where they are read, and their bytes.
use Rattle.std.proofs.Common.{◌≡◌, refl, sym, ap, ap₂, ◌∙◌, List, ◌++◌, append_assoc, ℕ, ◌+◌, ◌*◌, ◌/◌, ◌%◌, ◌≤◌, ◌<◌, arith, add-zero, length, take}
use Rattle.std.proofs.Common.{drop, length-append, drop_at, drop-drop, take-add, rules}
use Rattle.wire.specs.Bytes.{Below}
use Rattle.wire.specs.Words.{word_at, long_at, word_bytes, long_bytes}
use Rattle.wire.specs.declared.Order.TheVariants.{Little}
use Rattle.wire.proofs.Parts.{put_joined}
use Rattle.wire.proofs.Words.{word_length, word_again, word_drop, word_take, word_below, word_bytes_lem}

-- what the code joins: two numbers of 32 bits, made wider
pub long_joined : (s : List ℕ) (at u a v b : ℕ) → u ≡ word_at Little s at → a ≡ u → v ≡ word_at Little s (at + 4) → b ≡ v
    → a + 4294967296 * b ≡ long_at s at
unfolding long_at
long_joined s at u a v b p q r t = rw (q, p, t, r)

pub long_small : (a b : ℕ) → a < 4294967296 → b < 4294967296 → a + 4294967296 * b < 18446744073709551616
long_small a b h k = omega arith

-- ---- where it is read

pub long_drop : (s : List ℕ) (a i : ℕ) → long_at (drop a s) i ≡ long_at s (a + i)
unfolding long_at
long_drop s a i =
    let e : a + (i + 4) ≡ a + i + 4 = omega arith in
    rw (word_drop Little s a i, word_drop Little s a (i + 4), e)

pub long_take : (n : ℕ) (s : List ℕ) (at : ℕ) → at + 8 ≤ n → long_at (take n s) at ≡ long_at s at
unfolding long_at
long_take n s at h = rw (word_take Little n s at (omega arith), word_take Little n s (at + 4) (omega arith))

-- in the part of w bytes at a
pub long_part : (m : List ℕ) (a w i : ℕ) → i + 8 ≤ w → long_at (take w (drop a m)) i ≡ long_at m (a + i)
long_part m a w i h = long_take w (drop a m) i h ∙ long_drop m a i

pub long_front : (m : List ℕ) (a : ℕ) → long_at (drop a m) 0 ≡ long_at m a
long_front m a = long_drop m a 0 ∙ ap (long_at m) (add-zero a)

pub long_below : (s : List ℕ) (at : ℕ) → Below 256 s → long_at s at < 18446744073709551616
unfolding long_at
long_below s at b = omega (arith, word_below Little s at b, word_below Little s (at + 4) b)

-- the eight bytes that it is read from
pub eight_at : (s : List ℕ) (at : ℕ) → take 8 (drop at s) ≡ take 4 (drop at s) ++ take 4 (drop (at + 4) s)
eight_at s at = take-add 4 4 (drop at s) ∙ rw (drop-drop 4 at s)

-- ---- its bytes

pub long_length : (n : ℕ) → length (long_bytes n) ≡ 8
unfolding long_bytes
long_length n =
    length-append (word_bytes (n % 4294967296)) (word_bytes (n / 4294967296))
    ∙ omega (arith, word_length (n % 4294967296), word_length (n / 4294967296))

-- they say the number
pub long_again : (n : ℕ) (s : List ℕ) → n < 18446744073709551616 → long_at (long_bytes n ++ s) 0 ≡ n
unfolding long_at long_bytes
long_again n s h =
    let a = word_bytes (n % 4294967296) in
    let b = word_bytes (n / 4294967296) in
    let low : word_at Little (a ++ (b ++ s)) 0 ≡ n % 4294967296 = word_again (n % 4294967296) (b ++ s) (omega arith) in
    let high : word_at Little (a ++ (b ++ s)) (0 + 4) ≡ n / 4294967296
    = sym (word_drop Little (a ++ (b ++ s)) 4 0)
    ∙ ap (λ (z : List ℕ). word_at Little z 0) (drop_at a (b ++ s) 4 (word_length (n % 4294967296)))
    ∙ word_again (n / 4294967296) s (omega arith) in
    rw (append_assoc a b s, low, high) (omega arith)

-- and the eight bytes at a place are those of the number there
pub long_bytes_lem : (s : List ℕ) (at : ℕ) → Below 256 s → at + 8 ≤ length s → long_bytes (long_at s at) ≡ take 8 (drop at s)
unfolding long_at long_bytes
long_bytes_lem s at b h =
    let u = word_at Little s at in
    let v = word_at Little s (at + 4) in
    let p : (u + 4294967296 * v) % 4294967296 ≡ u = omega (arith, word_below Little s at b) in
    let q : (u + 4294967296 * v) / 4294967296 ≡ v = omega (arith, word_below Little s at b) in
    rw (p, q) (ap₂ ◌++◌ (word_bytes_lem s at b (omega arith)) (word_bytes_lem s (at + 4) b (omega arith)) ∙ sym (eight_at s at))

-- ---- two stores one behind the other

pub long_stored : (s s₁ s₂ : List ℕ) (at x : ℕ) → at + 8 ≤ length s
    → s₁ ≡ take at s ++ (word_bytes (x % 4294967296) ++ drop (at + 4) s)
    → s₂ ≡ take (at + 4) s₁ ++ (word_bytes (x / 4294967296) ++ drop (at + 4 + 4) s₁)
    → s₂ ≡ take at s ++ (long_bytes x ++ drop (at + 8) s)
unfolding long_bytes
long_stored s s₁ s₂ at x h e f =
    f
    ∙ ap (λ (z : List ℕ). take (at + 4) z ++ (word_bytes (x / 4294967296) ++ drop (at + 4 + 4) z)) e
    ∙ put_joined s (word_bytes (x % 4294967296)) (word_bytes (x / 4294967296)) at 4 4 (omega arith) (word_length (x % 4294967296))

pub ruleset long_stores = (long_joined, long_small, long_stored, rules)
