-- The mask of a broadcast's receivers: the language's count of ones is the count of the slots reached, and the mask has a bit for each slot.
use mathlib.Core.Path.{◌≡◌, refl, ap, ap₂, ◌∙◌}
use mathlib.Core.Bool.{Bool, true, false}
use mathlib.Core.List.{List, [], ◌∷◌}
use Prim.Native.Nat.{ℕ, suc, ◌+◌, ◌-◌, ◌*◌, ◌/◌, ◌%◌, ◌^◌, ◌≤◌, ◌<◌}
use native.Mathlib.Nat.{pow-suc}
use native.Mathlib.Numerals.{add-one}
use native.Mathlib.Omega.{arith}
use lib.Count.{ones, ones_step}
use lib.ListN.{length, drop, get_or, length-drop, drop_of_length-le}
use lib.Seq.{drop-cons}
use Rattle.rules.specs.Judge.{bit, mask_of, count_of}

-- bit 0 is the first slot, and the rest of the mask the other slots
mask_odd : (b : Bool) (bits : List Bool) → mask_of (b ∷ bits) % 2 ≡ bit b
unfolding mask_of
mask_odd true bits = omega arith
mask_odd false bits = omega arith

mask_half : (b : Bool) (bits : List Bool) → mask_of (b ∷ bits) / 2 ≡ mask_of bits
unfolding mask_of
mask_half true bits = omega arith
mask_half false bits = omega arith

mask_cons : (b : Bool) (bits : List Bool) → mask_of (b ∷ bits) ≡ bit b + 2 * mask_of bits
mask_cons b bits = omega (arith, mask_odd b bits, mask_half b bits)

pub mask_ones : (bits : List Bool) → ones (mask_of bits) ≡ count_of bits
unfolding mask_of count_of ones
mask_ones [] = refl
mask_ones (b ∷ bits) =
    ones_step (mask_of (b ∷ bits))
    ∙ ap₂ (λ (x y : ℕ). x + ones y) (mask_odd b bits) (mask_half b bits)
    ∙ ap (λ (x : ℕ). bit b + x) (mask_ones bits)

pub mask_small : (bits : List Bool) → mask_of bits < 2 ^ length bits
unfolding mask_of
mask_small [] = omega arith
mask_small (b ∷ bits) = omega (arith, pow-suc 2 (length bits), mask_half b bits, mask_small bits)

-- ---- as a loop makes it, from the last slot down: the slots from i on

pub mask_from : (bits : List Bool) (i : ℕ) → i < length bits → mask_of (drop i bits) ≡ bit (get_or bits i false) + 2 * mask_of (drop (i + 1) bits)
mask_from bits i h = rw (add-one, drop-cons bits i false h) (mask_cons (get_or bits i false) (drop (suc i) bits))

pub mask_past : (bits : List Bool) (i : ℕ) → length bits ≤ i → mask_of (drop i bits) ≡ 0
unfolding mask_of
mask_past bits i h = rw (drop_of_length-le bits h)

pub mask_room : (bits : List Bool) (i : ℕ) → mask_of (drop i bits) < 2 ^ (length bits - i)
mask_room bits i = rw (← length-drop i bits) (mask_small (drop i bits))
