-- A test of the number in four or eight bytes is the test of each of the bytes.
use Rattle.std.proofs.Common.{◌-◌, false, ◌≡◌, sym, ap, ap₂, ◌∙◌, true, ◌&&◌, List, [], ◌∷◌, ◌++◌, ℕ, ◌+◌, ◌*◌, ◌/◌, ◌≤◌, ◌<◌, arith, eqb, length, take, drop}
use Rattle.std.proofs.Common.{get_or, length-take, length-drop, rules, eq-eqb, ne_eqb, eqb-true}
use Rattle.wire.specs.Bytes.{all_zero, same}
use Rattle.wire.specs.Words.{joined, word_at, word_bytes, long_at}
use Rattle.wire.specs.declared.Order.TheVariants.{Little}
use Rattle.wire.proofs.Blocks.{zeroes, Zeros, zeros_lap, Equals, equals_length, equals_begin, equals_more, equals_stop, equals_lap, equals_end, equals_twice}
use Rattle.wire.proofs.Texts.{agree, both_first, both_second, zero_append, zero_zeros, same_append, same_eq, eq_same}
use Rattle.wire.proofs.Longs.{eight_at}
use Rattle.wire.proofs.Words.{Octets, octets_below, four_at, word_four, word_bytes_lem, word_below}

-- ---- eight bytes are four and four

small : (s : List ℕ) (at : ℕ) → Octets s → word_at Little s at < 4294967296
small s at b = word_below Little s at (octets_below s b)

same_two : (v w m n : ℕ) → v < 4294967296 → m < 4294967296 → eqb (v + 4294967296 * w) (m + 4294967296 * n) ≡ eqb v m && eqb w n
same_two v w m n h k = agree (eqb (v + 4294967296 * w) (m + 4294967296 * n)) (eqb v m && eqb w n) there back
  where
    there : eqb (v + 4294967296 * w) (m + 4294967296 * n) ≡ true → eqb v m && eqb w n ≡ true
    there e =
        let a : v + 4294967296 * w ≡ m + 4294967296 * n = eqb-true (v + 4294967296 * w) (m + 4294967296 * n) e in
        let p : (v + 4294967296 * w) / 4294967296 ≡ w = omega arith in
        let q : (m + 4294967296 * n) / 4294967296 ≡ n = omega arith in
        let f : w ≡ n = sym p ∙ ap (λ (i : ℕ). i / 4294967296) a ∙ q in
        rw (eq-eqb v m (omega arith), eq-eqb w n f)

    back : eqb v m && eqb w n ≡ true → eqb (v + 4294967296 * w) (m + 4294967296 * n) ≡ true
    back e =
        let p : v ≡ m = eqb-true v m (both_first (eqb v m) (eqb w n) e) in
        let q : w ≡ n = eqb-true w n (both_second (eqb v m) (eqb w n) e) in
        eq-eqb (v + 4294967296 * w) (m + 4294967296 * n) (omega arith)

-- ---- zero

zero_four : (a b c d : ℕ) → eqb (joined a b c d) 0 ≡ all_zero (a ∷ b ∷ c ∷ d ∷ [])
unfolding all_zero
zero_four a b c d = agree (eqb (joined a b c d) 0) (all_zero (a ∷ b ∷ c ∷ d ∷ [])) there back
  where
    there : eqb (joined a b c d) 0 ≡ true → all_zero (a ∷ b ∷ c ∷ d ∷ []) ≡ true
    there e =
        let n : joined a b c d ≡ 0 = eqb-true (joined a b c d) 0 e in
        let p : a ≡ 0 = omega arith in
        let q : b ≡ 0 = omega arith in
        let r : c ≡ 0 = omega arith in
        let t : d ≡ 0 = omega arith in
        rw (p, q, r, t)

    back : all_zero (a ∷ b ∷ c ∷ d ∷ []) ≡ true → eqb (joined a b c d) 0 ≡ true
    back e = eq-eqb (joined a b c d) 0 (ap (λ (l : List ℕ). joined (get_or l 0 0) (get_or l 1 0) (get_or l 2 0) (get_or l 3 0)) (zero_zeros (a ∷ b ∷ c ∷ d ∷ []) e))

pub zero_word : (s : List ℕ) (at : ℕ) → at + 4 ≤ length s → eqb (word_at Little s at) 0 ≡ all_zero (take 4 (drop at s))
unfolding word_at
zero_word s at h = rw (four_at s at h) (zero_four (get_or s at 0) (get_or s (at + 1) 0) (get_or s (at + 2) 0) (get_or s (at + 3) 0))

pub zero_long : (s : List ℕ) (at : ℕ) → Octets s → at + 8 ≤ length s → eqb (long_at s at) 0 ≡ all_zero (take 8 (drop at s))
unfolding long_at
zero_long s at b h =
    same_two (word_at Little s at) (word_at Little s (at + 4)) 0 0 (small s at b) (omega arith)
    ∙ ap₂ ◌&&◌ (zero_word s at (omega arith)) (zero_word s (at + 4) (omega arith))
    ∙ sym (ap all_zero (eight_at s at) ∙ zero_append (take 4 (drop at s)) (take 4 (drop (at + 4) s)))

-- ---- equal

module _ (x y : List ℕ) (at : ℕ) (b : Octets x) (c : Octets y) where
  pub same_word : at + 4 ≤ length x → at + 4 ≤ length y
      → eqb (word_at Little x at) (word_at Little y at) ≡ same (take 4 (drop at x)) (take 4 (drop at y))
  same_word h k =
      agree (eqb (word_at Little x at) (word_at Little y at)) (same (take 4 (drop at x)) (take 4 (drop at y)))
      (λ e. eq_same (take 4 (drop at x)) (take 4 (drop at y))
      (sym (word_bytes_lem x at (octets_below x b) h) ∙ ap word_bytes (eqb-true (word_at Little x at) (word_at Little y at) e)
      ∙ word_bytes_lem y at (octets_below y c) k))
      (λ e. eq-eqb (word_at Little x at) (word_at Little y at)
      (sym (word_four x at) ∙ ap (λ (l : List ℕ). word_at Little l 0) (same_eq (take 4 (drop at x)) (take 4 (drop at y)) e) ∙ word_four y at))

module _ (x y : List ℕ) (at : ℕ) (b : Octets x) (c : Octets y) where
  pub same_long : at + 8 ≤ length x → at + 8 ≤ length y → eqb (long_at x at) (long_at y at) ≡ same (take 8 (drop at x)) (take 8 (drop at y))
  unfolding long_at
  same_long h k =
      same_two (word_at Little x at) (word_at Little x (at + 4)) (word_at Little y at) (word_at Little y (at + 4)) (small x at b) (small y at c)
      ∙ ap₂ ◌&&◌ (same_word x y at b c (omega arith) (omega arith)) (same_word x y (at + 4) b c (omega arith) (omega arith))
      ∙ sym (ap₂ same (eight_at x at) (eight_at y at)
      ∙ same_append (take 4 (drop at x)) (take 4 (drop at y)) (take 4 (drop (at + 4) x)) (take 4 (drop (at + 4) y)) (lengths x y h k))
    where
      lengths : (x y : List ℕ) → at + 8 ≤ length x → at + 8 ≤ length y → length (take 4 (drop at x)) ≡ length (take 4 (drop at y))
      lengths x y h k = simp (length-take, length-drop) (omega arith)

-- ---- the tests as the code makes them, of what the loads gave

module _ (s : List ℕ) (at n : ℕ) where
  pub zero_load : n ≡ word_at Little s at → at + 4 ≤ length s → eqb n 0 ≡ all_zero (take 4 (drop at s))
  zero_load e h = rw e (zero_word s at h)

  module _ (e : n ≡ long_at s at) (b : Octets s) (h : at + 8 ≤ length s) where
    pub zero_load_long : eqb n 0 ≡ all_zero (take 8 (drop at s))
    zero_load_long = rw e (zero_long s at b h)

    pub zero_found : n ≡ 0 → all_zero (take 8 (drop at s)) ≡ true
    zero_found z = sym zero_load_long ∙ eq-eqb n 0 z

    pub zero_missed : (n ≡ 0 → ⊥) → all_zero (take 8 (drop at s)) ≡ false
    zero_missed z = sym zero_load_long ∙ ne_eqb n 0 z

module _ (x y : List ℕ) (at n m : ℕ) where
  pub same_load : n ≡ word_at Little x at → m ≡ word_at Little y at → Octets x → Octets y → at + 4 ≤ length x → at + 4 ≤ length y
      → eqb n m ≡ same (take 4 (drop at x)) (take 4 (drop at y))
  same_load e f b c h k = rw (e, f) (same_word x y at b c h k)

  module _ (e : n ≡ long_at x at) (f : m ≡ long_at y at) (b : Octets x) (c : Octets y) (h : at + 8 ≤ length x) (k : at + 8 ≤ length y) where
    pub same_load_long : eqb n m ≡ same (take 8 (drop at x)) (take 8 (drop at y))
    same_load_long = rw (e, f) (same_long x y at b c h k)

    same_found : n ≡ m → same (take 8 (drop at x)) (take 8 (drop at y)) ≡ true
    same_found z = sym same_load_long ∙ eq-eqb n m z

    same_missed : (n ≡ m → ⊥) → same (take 8 (drop at x)) (take 8 (drop at y)) ≡ false
    same_missed z = sym same_load_long ∙ ne_eqb n m z

pub ruleset loads = (zero_load, zero_load_long, zero_found, zero_missed, rules)

-- ---- the last of the words of zeros

pub zeros_last : {s : List ℕ} {from to i : ℕ} → Zeros s from to i → {n : ℕ} → n ≡ long_at s (to - 8) → Octets s → 8 ≤ to - from → to - 8 ≤ i
    → eqb n 0 ≡ zeroes s from to
zeros_last {s} {from} {to} z {n} e b l h = zeros_lap z 8 (zero_load_long s (to - 8) n e b (omega (arith, z.inside))) l h

-- ---- the ways through words that are compared

module _ (a b : List ℕ) (x : Octets a) (y : Octets b) (l : length a ≡ length b) where
  module _ {m n : ℕ} (e : m ≡ long_at a (length a - 8)) (f : n ≡ long_at b (length a - 8)) (h : 8 ≤ length a) where
    pub words_end : (m ≡ n → ⊥) → false ≡ same a b
    words_end d = equals_end a b (same_missed a b (length a - 8) m n e f x y (omega arith) (omega arith) d) l h

    pub words_lap : m ≡ n → {i : ℕ} → Equals a b i → length a - 8 ≤ i → true ≡ same a b
    words_lap d z k = equals_lap z (same_found a b (length a - 8) m n e f x y (omega arith) (omega arith) d) h k

  module _ {i : ℕ} (z : Equals a b i) {m n : ℕ} (e : m ≡ long_at a i) (f : n ≡ long_at b i) (h : i < length a - 8) where
    pub words_stop : (m ≡ n → ⊥) → false ≡ same a b
    words_stop d = equals_stop z (same_missed a b i m n e f x y (omega arith) (omega arith) d) h

    pub words_more : m ≡ n → Equals a b (i + 8)
    words_more d = equals_more z (same_found a b i m n e f x y (omega arith) (omega arith) d) h

  -- four bytes at each end
  pub words_twice : {m n p q : ℕ} → m ≡ word_at Little a 0 → n ≡ word_at Little b 0 → p ≡ word_at Little a (length a - 4) → q ≡ word_at Little b (length a - 4)
      → 4 ≤ length a → length a < 8 → eqb m n && eqb p q ≡ same a b
  words_twice {m} {n} {p} {q} e f g j h k =
      equals_twice a b (same_load a b 0 m n e f x y (omega arith) (omega arith))
      (same_load a b (length a - 4) p q g j x y (omega arith) (omega arith)) l h k

pub ruleset words = (equals_length, equals_begin, words_end, words_lap, words_stop, words_more, words_twice, rules)
