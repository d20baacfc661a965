-- Lists cut and put together: what stands past a part of known length, a part put at its place, zeros.
use Rattle.std.proofs.Common.{List, [], ◌∷◌, ◌++◌, append_assoc, ◌≡◌, refl, sym, ap, ap₂, ◌∙◌, ℕ, zero, suc, ◌+◌, ◌-◌, ◌≤◌, arith, length, take, drop}
use Rattle.std.proofs.Common.{replicate, take-append-drop, take_at, drop_at, length-take-le, take-take, drop-drop, take-add}
use native.Mathlib.Nat.{sub-zero, zero-sub, add-sub_cancel_left}
use lib.Seq.{take-append-add, drop-append-add, take-nil}
use Rattle.wire.specs.Bytes.{pad}

pub take_past : (p q : List ℕ) (k n : ℕ) → length p ≡ k → take (k + n) (p ++ q) ≡ p ++ take n q
take_past p q k n e = rw (← e) (take-append-add p q n)

pub drop_past : (p q : List ℕ) (k n : ℕ) → length p ≡ k → drop (k + n) (p ++ q) ≡ drop n q
drop_past p q k n e = rw (← e) (drop-append-add p q n)

-- a part without its first n
pub drop_taken : (n k : ℕ) (l : List ℕ) → drop n (take k l) ≡ take (k - n) (drop n l)
drop_taken zero k l = rw (sub-zero k)
drop_taken (suc n) k [] = rw (take-nil k) (sym (take-nil (k - suc n)))
drop_taken (suc n) zero (x ∷ l) = rw (zero-sub (suc n))
drop_taken (suc n) (suc k) (x ∷ l) = let e : suc k - suc n ≡ k - n = omega arith in rw e (drop_taken n k l)

pub drop_take : (n k : ℕ) (l : List ℕ) → drop n (take (n + k) l) ≡ take k (drop n l)
drop_take n k l = rw (drop_taken n (n + k) l, add-sub_cancel_left n k)

-- ---- a part between two others

-- it is put at its place
pub part_put : (pre old new post : List ℕ) (a k : ℕ) → length pre ≡ a → length old ≡ k
    → pre ++ (new ++ post) ≡ take a (pre ++ (old ++ post)) ++ (new ++ drop (a + k) (pre ++ (old ++ post)))
part_put pre old new post a k p q =
    rw (take_at pre (old ++ post) a p, drop_past pre (old ++ post) a k p, drop_at old post k q)

-- it is put past a first part of k bytes
pub part_past : (p q new : List ℕ) (k a c : ℕ) → length p ≡ k
    → take (k + a) (p ++ q) ++ (new ++ drop (k + a + c) (p ++ q)) ≡ p ++ (take a q ++ (new ++ drop (a + c) q))
part_past p q new k a c e =
    let f : k + a + c ≡ k + (a + c) = omega arith in
    rw (f, take_past p q k a e, drop_past p q k (a + c) e) (append_assoc p (take a q) (new ++ drop (a + c) q))

-- the rest of a part, and what follows the part
rest_of : (d : List ℕ) (n w : ℕ) → n ≤ w → drop n (take w d) ++ drop w d ≡ drop n d
rest_of d n w h =
    let e : w ≡ n + (w - n) = omega arith in
    rw (e, drop_take n (w - n) d, ← drop-drop (w - n) n d) (take-append-drop (w - n) (drop n d))

-- c bytes put at b of the part of w bytes at a
pub part_nested : (m new : List ℕ) (a b c w : ℕ) → b + c ≤ w
    → take a m ++ ((take b (take w (drop a m)) ++ (new ++ drop (b + c) (take w (drop a m)))) ++ drop (a + w) m)
    ≡ take (a + b) m ++ (new ++ drop (a + b + c) m)
part_nested m new a b c w h =
    let d = drop a m in
    let e : a + b + c ≡ a + (b + c) = omega arith in
    rw (
      take-take b w d (omega arith),
      append_assoc (take b d) (new ++ drop (b + c) (take w d)) (drop (a + w) m),
      append_assoc new (drop (b + c) (take w d)) (drop (a + w) m),
      ← drop-drop w a m,
      rest_of d (b + c) w h,
      e,
      ← drop-drop (b + c) a m,
      take-add a b m,
    )
    (sym (append_assoc (take a m) (take b d) (new ++ drop (b + c) d)))

-- x bytes, y bytes, and the rest
pub cut_two : (t : List ℕ) (x y : ℕ) → t ≡ take x t ++ (take y (drop x t) ++ drop (x + y) t)
cut_two t x y =
    sym (ap (λ (z : List ℕ). take x t ++ z) (rw (← drop-drop y x t) (take-append-drop y (drop x t))) ∙ take-append-drop x t)

-- ---- zeros

pub drop_zeros : (i n : ℕ) → drop {A = ℕ} i (replicate n 0) ≡ replicate (n - i) 0
drop_zeros zero n = rw (sub-zero n)
drop_zeros (suc i) zero = rw (zero-sub (suc i))
drop_zeros (suc i) (suc n) = let e : suc n - suc i ≡ n - i = omega arith in rw e (drop_zeros i n)

pub take_zeros : (i n : ℕ) → i ≤ n → take {A = ℕ} i (replicate n 0) ≡ replicate i 0
take_zeros zero n h = refl
take_zeros (suc i) zero h = absurd (omega arith)
take_zeros (suc i) (suc n) h = ap (λ (z : List ℕ). 0 ∷ z) (take_zeros i n (omega arith))

-- w zeros in front
pub zeros_front : (m : List ℕ) (a w : ℕ) → take w (drop a m) ≡ replicate w 0 → drop a m ≡ replicate w 0 ++ drop (a + w) m
zeros_front m a w e = sym (take-append-drop w (drop a m)) ∙ ap₂ ◌++◌ e (drop-drop w a m)

-- ---- padding

-- more zeros than are taken are no matter
take_longer : (n k : ℕ) (q : List ℕ) → n ≤ k → take n (q ++ replicate k 0) ≡ take n (q ++ replicate n 0)
take_longer zero k q h = refl
take_longer (suc n) k [] h = take_zeros (suc n) k h ∙ sym (take_zeros (suc n) (suc n) (omega arith))
take_longer (suc n) k (x ∷ q) h =
    ap (λ (z : List ℕ). x ∷ z) (take_longer n k q (omega arith) ∙ sym (take_longer n (suc n) q (omega arith)))

-- what fits stands whole before zeros
pub pad_fits : (n : ℕ) (xs : List ℕ) → length xs ≤ n → pad n xs ≡ xs ++ replicate (n - length xs) 0
unfolding pad
pad_fits n xs h =
    let e : n ≡ length xs + (n - length xs) = omega arith in
    ap (λ (k : ℕ). take k (xs ++ replicate n 0)) e
    ∙ take-append-add xs (replicate n 0) (n - length xs)
    ∙ ap (λ (z : List ℕ). xs ++ z) (take_zeros (n - length xs) n (omega arith))

-- a first part of k bytes is no matter of padding
pub pad_past : (p q : List ℕ) (k n : ℕ) → length p ≡ k → pad (k + n) (p ++ q) ≡ p ++ pad n q
unfolding pad
pad_past p q k n e =
    rw (append_assoc p q (replicate (k + n) 0), take_past p (q ++ replicate (k + n) 0) k n e)
    (ap (λ (z : List ℕ). p ++ z) (take_longer n (k + n) q (omega arith)))

-- two parts put one behind the other
pub put_joined : (m x y : List ℕ) (t p q : ℕ) → t + p ≤ length m → length x ≡ p
    → take (t + p) (take t m ++ (x ++ drop (t + p) m)) ++ (y ++ drop (t + p + q) (take t m ++ (x ++ drop (t + p) m)))
    ≡ take t m ++ ((x ++ y) ++ drop (t + (p + q)) m)
put_joined m x y t p q h e =
    let l : length (take t m) ≡ t = length-take-le t m (omega arith) in
    let d = drop (t + p) m in
    let f : t + p + q ≡ t + (p + q) = omega arith in
    let g : drop (t + (p + q)) m ≡ drop q d = rw (← f) (sym (drop-drop q (t + p) m)) in
    part_past (take t m) (x ++ d) y t p q l
    ∙ rw (take_at x d p e, drop_past x d p q e, g) (ap (λ (z : List ℕ). take t m ++ z) (sym (append_assoc x y (drop q d))))
