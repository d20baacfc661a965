-- The bits of two numbers together.
use Rattle.std.proofs.Common.{◌≡◌, refl, sym, ap₂, ◌∙◌, Bool, true, false, ◌&&◌, ℕ, zero, suc, ◌+◌, ◌*◌, ◌/◌, ◌%◌, ◌≤◌, ◌<◌, min, arith, mod-lt, eqb}
use Rattle.std.proofs.Common.{bit_and, bit_or, ne_eqb}
use lib.Bits.{and_step, and_zero_r, or_shr, or_mod}
use Rattle.names.specs.Scan.{clear}

-- what holds of both digits holds of each
of_digits : (P : ℕ → Type 0) → P 0 → P 1 → (x : ℕ) → x < 2 → P x
of_digits P p q zero h = p
of_digits P p q (suc zero) h = q
of_digits P p q (suc (suc x)) h = absurd (omega arith)

-- a number is zero where its half and its last digit are
halved : (h d : ℕ) → eqb (h * 2 + d) 0 ≡ eqb h 0 && eqb d 0
halved zero zero = refl
halved zero (suc d) = ne_eqb (zero * 2 + suc d) 0 (λ e. omega arith) ∙ sym (ne_eqb (suc d) 0 (λ e. omega arith))
halved (suc h) d = rw (ne_eqb (suc h * 2 + d) 0 (λ e. omega arith), ne_eqb (suc h) 0 (λ e. omega arith))

abbrev Digitwise : ℕ → ℕ → ℕ → Type 0
Digitwise x y z = eqb (min (bit_or x y) z) 0 ≡ eqb (min x z) 0 && eqb (min y z) 0

digitwise : (x y z : ℕ) → x < 2 → y < 2 → z < 2 → Digitwise x y z
digitwise x y z h k l =
    of_digits (λ x. Digitwise x y z)
    (of_digits (λ y. Digitwise 0 y z) (of_digits (Digitwise 0 0) refl refl z l) (of_digits (Digitwise 0 1) refl refl z l) y k)
    (of_digits (λ y. Digitwise 1 y z) (of_digits (Digitwise 1 0) refl refl z l) (of_digits (Digitwise 1 1) refl refl z l) y k) x h

shuffled : (p q r s : Bool) → p && q && (r && s) ≡ p && r && (q && s)
shuffled true true r s = refl
shuffled true false true s = refl
shuffled true false false s = refl
shuffled false q r s = refl

clear_step : (m x : ℕ) → clear m x ≡ clear (m / 2) (x / 2) && eqb (min (x % 2) (m % 2)) 0
clear_step m x = rw (and_step x m) (halved (bit_and (x / 2) (m / 2)) (min (x % 2) (m % 2)))

-- no bit of m is in two numbers together where none is in either
clear_fuel : (k a b m : ℕ) → m ≤ k → clear m (bit_or a b) ≡ clear m a && clear m b
clear_fuel zero a b m h = let e : m ≡ 0 = omega arith in rw (e, and_zero_r (bit_or a b), and_zero_r a, and_zero_r b)
clear_fuel (suc k) a b m h =
    clear_step m (bit_or a b)
    ∙ rw (
      or_shr a b 1,
      or_mod a b 1,
      clear_fuel k (a / 2) (b / 2) (m / 2) (omega arith),
      digitwise (a % 2) (b % 2) (m % 2) (mod-lt a (omega arith)) (mod-lt b (omega arith)) (mod-lt m (omega arith)),
    )
    (shuffled (clear (m / 2) (a / 2)) (clear (m / 2) (b / 2)) (eqb (min (a % 2) (m % 2)) 0) (eqb (min (b % 2) (m % 2)) 0))
    ∙ sym (ap₂ ◌&&◌ (clear_step m a) (clear_step m b))

pub clear_both : (m a b : ℕ) → clear m (bit_or a b) ≡ clear m a && clear m b
clear_both m a b = clear_fuel m a b m (omega arith)
