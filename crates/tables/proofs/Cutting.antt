-- A cell taken out of a table: the bytes behind it move down, and the last cell is cleared.
use mathlib.Core.Path.{◌≡◌, sym, ap, ◌∙◌}
use mathlib.Core.List.{List, [], ◌++◌, append_assoc, append-nil}
use Prim.Native.Nat.{ℕ, ◌+◌, ◌-◌}
use native.Mathlib.Omega.{arith}
use lib.ListN.{length, take, drop, replicate, length-drop, drop_of_length-le}
use lib.Seq.{take_at, drop_at, drop-drop, length-take-le, paste, length_paste_head}
use borrow.Author.Rules.{rules}
use Rattle.wire.specs.Words.{word_bytes}
use Rattle.wire.proofs.Words.{rest_at}
use Rattle.wire.proofs.Parts.{drop_take}
use Rattle.tables.specs.Cut.{cut_out, Cell}

pub cut_written : (s s₁ z : List ℕ) (at w end : ℕ) → Cell s at w end
    → s₁ ≡ paste s at (drop (at + w) s) (end - (at + w))
    → z ≡ replicate (length (take (end - (end - w)) (drop (end - w) s₁))) 0
    → take (end - w) s₁ ++ (z ++ drop (end - (end - w)) (drop (end - w) s₁)) ≡ cut_out w end at s
unfolding cut_out
cut_written s s₁ z at w end c e ez =
    let k = end - (at + w) in
    let d = drop (at + w) s in
    let r = drop (end - w) s in
    let p = take at s ++ take k d in
    let lp : length p ≡ end - w = length_paste_head s at d k (omega arith) (omega (arith, length-drop (at + w) s)) ∙ omega arith in
    let f : at + k ≡ end - w = omega arith in
    let q : s₁ ≡ p ++ r = e ∙ ap (λ (n : ℕ). p ++ drop n s) f in
    let qt : take (end - w) s₁ ≡ p = ap (take (end - w)) q ∙ take_at p r (end - w) lp in
    let qd : drop (end - w) s₁ ≡ r = ap (drop (end - w)) q ∙ drop_at p r (end - w) lp in
    let w' : end - (end - w) ≡ w = omega arith in
    let o : end - w + w ≡ end = omega arith in
    let lz : length (take w r) ≡ w = length-take-le w r (omega (arith, length-drop (end - w) s)) in
    let t : at + w + k ≡ end = omega arith in
    let m : take k d ≡ drop (at + w) (take end s) = sym (ap (λ (n : ℕ). drop (at + w) (take n s)) (sym t) ∙ drop_take (at + w) k s) in
    let fz : z ≡ replicate w 0 = rw (w', qd, lz) at ez in
    rw (qt, qd, w', fz, drop-drop w (end - w) s, o, ← m) (append_assoc (take at s) (take k d) (replicate w 0 ++ drop end s))

pub ruleset cutting = (cut_written, rules)

-- ---- in the cells of a table, whose count is put

pub remove_cell : (t : List ℕ) (at w end : ℕ) → Cell t (4 + at) w (4 + end) → Cell (take (length t - 4) (drop 4 t)) at w end
remove_cell t at w end g =
    let l : length (take (length t - 4) (drop 4 t)) ≡ length t - 4 = ap length (rest_at 4 t) ∙ length-drop 4 t in
    record { inside = omega arith; room = omega arith }

pub remove_written : (t y t₂ : List ℕ) (at w end n : ℕ) → Cell t (4 + at) w (4 + end) → y ≡ cut_out w end at (take (length t - 4) (drop 4 t))
    → t₂ ≡ word_bytes n ++ drop 4 (take 4 t ++ (y ++ drop (length t - 4) (drop 4 t)))
    → t₂ ≡ word_bytes n ++ cut_out w end at (drop 4 t)
remove_written t y t₂ at w end n g ey e =
    let d = drop (length t - 4) (drop 4 t) in
    let z : d ≡ [] = drop_of_length-le (drop 4 t) {i = length t - 4} (omega (arith, length-drop 4 t)) in
    let q : drop 4 (take 4 t ++ (y ++ d)) ≡ y = drop_at (take 4 t) (y ++ d) 4 (length-take-le 4 t (omega arith)) ∙ rw z (append-nil y) in
    e ∙ ap (λ (x : List ℕ). word_bytes n ++ x) (q ∙ ey ∙ ap (cut_out w end at) (rest_at 4 t))

pub ruleset removing = (remove_cell, remove_written, rules)
