-- Numbers and their bytes.
use Rattle.std.proofs.Common.{◌≡◌, refl, ap, ◌∙◌, List, [], ◌∷◌, ◌++◌, ℕ, zero, suc, ◌+◌, ◌-◌, ◌*◌, ◌/◌, ◌%◌, ◌^◌, ◌≤◌, ◌<◌, arith}
use Rattle.std.proofs.Common.{add-zero, length, take, drop, get_or, length-drop, drop-drop, get_or-drop, get_or-take, take_all, length-take-le}
use native.Mathlib.Nat.{add-sub_cancel_left}
use mir.Syntax.{w8}
use mir.Val.{Fits}
use Rattle.std.specs.Int.{w32, to_le_bytes}
use Rattle.wire.specs.Bytes.{Below}
use Rattle.wire.proofs.From.{next}
use Rattle.wire.specs.Words.{word_at, word_bytes}
use Rattle.wire.specs.declared.Order.{Order}
use Rattle.wire.specs.declared.Order.TheVariants.{Little, Big}

-- each number is a byte, as the borrow checker says it of a slice
abbrev pub Octets : List ℕ → Type 0
Octets s = (i : ℕ) → Fits w8 (get_or s i 0)

pub octets_below : (s : List ℕ) → Octets s → Below 256 s
octets_below s f i = (f i).fits

pub word_length : (n : ℕ) → length (word_bytes n) ≡ 4
unfolding word_bytes
word_length n = refl

-- the bytes of a number below 2 ^ 32 say the number
pub word_again : (n : ℕ) (s : List ℕ) → n < 2 ^ 32 → word_at Little (word_bytes n ++ s) 0 ≡ n
unfolding word_at word_bytes
word_again n s h = omega arith

-- four bytes are those of their number
pub bytes_again : (b : List ℕ) → length b ≡ 4 → Below 256 b → word_bytes (word_at Little b 0) ≡ b
unfolding word_at word_bytes
bytes_again [] e h = absurd (omega arith)
bytes_again (a ∷ []) e h = absurd (omega arith)
bytes_again (a ∷ b ∷ []) e h = absurd (omega arith)
bytes_again (a ∷ b ∷ c ∷ []) e h = absurd (omega arith)
bytes_again (a ∷ b ∷ c ∷ d ∷ []) e h =
    let n = a + 256 * b + 65536 * c + 16777216 * d in
    let p : n % 256 ≡ a = omega (arith, h 0) in
    let q : n / 256 ≡ b + 256 * c + 65536 * d = omega (arith, h 0) in
    let r : (b + 256 * c + 65536 * d) % 256 ≡ b = omega (arith, h 1) in
    let s : (b + 256 * c + 65536 * d) / 256 ≡ c + 256 * d = omega (arith, h 1) in
    let t : (c + 256 * d) % 256 ≡ c = omega (arith, h 2) in
    let u : (c + 256 * d) / 256 ≡ d = omega (arith, h 2) in
    let v : d % 256 ≡ d = omega (arith, h 3) in
    rw (p, q, r, s, t, u, v)
bytes_again (a ∷ b ∷ c ∷ d ∷ f ∷ g) e h = absurd (omega arith)

-- a number is its four bytes, wherever they stand
word_same : (o : Order) (s t : List ℕ) (i j : ℕ) → get_or s i 0 ≡ get_or t j 0 → get_or s (i + 1) 0 ≡ get_or t (j + 1) 0 → get_or s (i + 2) 0 ≡ get_or t (j + 2) 0
    → get_or s (i + 3) 0 ≡ get_or t (j + 3) 0 → word_at o s i ≡ word_at o t j
unfolding word_at
word_same Little s t i j a b c d = rw (a, b, c, d)
word_same Big s t i j a b c d = rw (a, b, c, d)

-- it is read the same in a part of the slice
pub word_drop : (o : Order) (s : List ℕ) (a i : ℕ) → word_at o (drop a s) i ≡ word_at o s (a + i)
word_drop o s a i = word_same o (drop a s) s i (a + i) (get_or-drop a s i 0) (further 1) (further 2) (further 3)
  where
    further : (k : ℕ) → get_or (drop a s) (i + k) 0 ≡ get_or s (a + i + k) 0
    further k = get_or-drop a s (i + k) 0 ∙ ap (λ (n : ℕ). get_or s n 0) (omega arith)

pub word_take : (o : Order) (n : ℕ) (s : List ℕ) (at : ℕ) → at + 4 ≤ n → word_at o (take n s) at ≡ word_at o s at
word_take o n s at h =
    word_same o (take n s) s at at (get_or-take n s at 0 (omega arith)) (get_or-take n s (at + 1) 0 (omega arith)) (get_or-take n s (at + 2) 0 (omega arith))
    (get_or-take n s (at + 3) 0 (omega arith))

-- bytes make a number below 2 ^ 32
pub word_below : (o : Order) (s : List ℕ) (at : ℕ) → Below 256 s → word_at o s at < 4294967296
unfolding word_at
word_below Little s at b = omega (arith, b at, b (at + 1), b (at + 2), b (at + 3))
word_below Big s at b = omega (arith, b at, b (at + 1), b (at + 2), b (at + 3))

-- ---- parts of bytes

pub below_take : (n : ℕ) (s : List ℕ) → Below 256 s → Below 256 (take n s)
below_take zero s b i = omega arith
below_take (suc n) [] b i = omega arith
below_take (suc n) (x ∷ s) b zero = b 0
below_take (suc n) (x ∷ s) b (suc i) = below_take n s (λ j. b (suc j)) i

pub below_drop : (n : ℕ) (s : List ℕ) → Below 256 s → Below 256 (drop n s)
below_drop n s b i = rw (get_or-drop n s i 0) (b (n + i))

-- the four bytes at a place say the number there, and are those of it
pub word_four : (s : List ℕ) (at : ℕ) → word_at Little (take 4 (drop at s)) 0 ≡ word_at Little s at
word_four s at = word_take Little 4 (drop at s) 0 (omega arith) ∙ word_drop Little s at 0 ∙ rw add-zero

pub word_bytes_lem : (s : List ℕ) (at : ℕ) → Below 256 s → at + 4 ≤ length s → word_bytes (word_at Little s at) ≡ take 4 (drop at s)
word_bytes_lem s at b h =
    let l : length (take 4 (drop at s)) ≡ 4 = length-take-le 4 (drop at s) (omega (arith, length-drop at s)) in
    rw (← word_four s at) (bytes_again (take 4 (drop at s)) l (below_take 4 (drop at s) (below_drop at s b)))

-- the four bytes that a number is read from
pub four_at : (s : List ℕ) (at : ℕ) → at + 4 ≤ length s
    → take 4 (drop at s) ≡ get_or s at 0 ∷ get_or s (at + 1) 0 ∷ get_or s (at + 2) 0 ∷ get_or s (at + 3) 0 ∷ []
four_at s at h =
    let e : at + 1 + 1 ≡ at + 2 = omega arith in
    let f : at + 2 + 1 ≡ at + 3 = omega arith in
    rw (next s at (omega arith), next s (at + 1) (omega arith), e, next s (at + 2) (omega arith), f, next s (at + 3) (omega arith))

-- ---- parts of a slice, as the code cuts them

-- a part of k elements that starts at a
pub cut_at : (a k : ℕ) (m : List ℕ) → take (a + k - a) (drop a m) ≡ take k (drop a m)
cut_at a k m = ap (λ (n : ℕ). take n (drop a m)) (add-sub_cancel_left a k)

-- the part from a on
pub rest_at : (a : ℕ) (m : List ℕ) → take (length m - a) (drop a m) ≡ drop a m
rest_at a m = take_all (length m - a) (drop a m) (rw (length-drop a m) (omega arith))

-- a part of k elements put back at a, as a lent part comes back
pub put_at_lem : (a k : ℕ) (xs ys : List ℕ) → take a xs ++ (ys ++ drop (a + k - a) (drop a xs)) ≡ take a xs ++ (ys ++ drop (a + k) xs)
put_at_lem a k xs ys = rw (add-sub_cancel_left a k, drop-drop k a xs)

-- the four bytes of a number put at a
pub stored : (s w : List ℕ) (at x : ℕ) → w ≡ to_le_bytes w32 x → take at s ++ (w ++ drop (at + 4 - at) (drop at s)) ≡ take at s ++ (word_bytes x ++ drop (at + 4) s)
unfolding word_bytes
stored s w at x e =
    let p : x / 65536 ≡ x / 256 / 256 = omega arith in
    let q : x / 16777216 ≡ x / 256 / 256 / 256 = omega arith in
    let f : w ≡ word_bytes x = e ∙ rw (p, q) in
    put_at_lem at 4 s w ∙ ap (λ (z : List ℕ). take at s ++ (z ++ drop (at + 4) s)) f
