-- Things of one width, over the width and the encoding: where each stands, what putting one leaves, and that what was put is read back.
use mathlib.Core.List.{List, [], ◌∷◌, ◌++◌, map, append_assoc, append-nil}
use mathlib.Core.Path.{◌≡◌, refl, sym, ap, ap₂, ◌∙◌}
use Prim.Native.Nat.{ℕ, zero, suc, ◌+◌, ◌-◌, ◌*◌, ◌≤◌, ◌<◌}
use native.Mathlib.Omega.{arith}
use lib.ListN.{length, get_or, take, drop, set, replicate, length-append, length-drop, replicate-append-replicate}
use lib.Seq.{take_at, drop_at, drop-drop, take-take, take-add, take-nil, drop-nil, length-take-le}
use Rattle.tables.specs.Tables.{cells, parts}
use Rattle.wire.proofs.Parts.{take_past, drop_past, drop_taken}

-- ---- parts

module _ (w : ℕ) where
  pub parts_length : (n : ℕ) (m : List ℕ) → length (parts w n m) ≡ n
  unfolding parts
  parts_length zero m = refl
  parts_length (suc n) m = ap suc (parts_length n (drop w m))

  pub parts_at : (n : ℕ) (m : List ℕ) (i : ℕ) → i < n → get_or (parts w n m) i [] ≡ take w (drop (w * i) m)
  unfolding parts
  parts_at zero m i h = absurd (omega arith)
  parts_at (suc n) m zero h = let e : w * 0 ≡ 0 = omega arith in rw e
  parts_at (suc n) m (suc i) h =
      let e : w * suc i ≡ w + w * i = omega arith in
      rw (e, ← drop-drop (w * i) w m) (parts_at n (drop w m) i (omega arith))

  -- parts read no further than they reach
  pub parts_take : (n j : ℕ) (m : List ℕ) → w * n ≤ j → parts w n (take j m) ≡ parts w n m
  unfolding parts
  parts_take zero j m h = refl
  parts_take (suc n) j m h =
      let e : w * suc n ≡ w + w * n = omega arith in
      ap₂ ◌∷◌ (take-take w j m (omega arith)) (rw (drop_taken w j m) (parts_take n (j - w) (drop w m) (omega arith)))

  -- part i put: the others stay
  pub parts_put : (n : ℕ) (m y : List ℕ) (i : ℕ) → i < n → length y ≡ w → w * n ≤ length m
      → parts w n (take (w * i) m ++ (y ++ drop (w * i + w) m)) ≡ set (parts w n m) i y
  unfolding parts
  parts_put zero m y i h l s = absurd (omega arith)
  parts_put (suc n) m y zero h l s =
      let e : w * 0 ≡ 0 = omega arith in
      let f : 0 + w ≡ w = omega arith in
      rw (e, f, take_at y (drop w m) w l, drop_at y (drop w m) w l)
  parts_put (suc n) m y (suc i) h l s =
      let e : w * suc i ≡ w + w * i = omega arith in
      let f : w + w * i + w ≡ w + (w * i + w) = omega arith in
      let r : w * suc n ≡ w + w * n = omega arith in
      let t : length (take w m) ≡ w = length-take-le w m (omega arith) in
      let d = drop w m in
      let c : take (w * suc i) m ++ (y ++ drop (w * suc i + w) m) ≡ take w m ++ (take (w * i) d ++ (y ++ drop (w * i + w) d))
      = rw (e, f, ← drop-drop (w * i + w) w m, take-add w (w * i) m) (append_assoc (take w m) (take (w * i) d) (y ++ drop (w * i + w) d)) in
      let z = take (w * i) d ++ (y ++ drop (w * i + w) d) in
      rw (c, take_at (take w m) z w t, drop_at (take w m) z w t)
      (ap (λ (q : List (List ℕ)). take w m ∷ q) (parts_put n d y i (omega arith) l (omega (arith, length-drop w m))))

pub map_set : {A B : Type 0} (f : A → B) (l : List A) (i : ℕ) (x : A) → map f (set l i x) ≡ set (map f l) i (f x)
map_set f [] i x = refl
map_set f (y ∷ l) zero x = refl
map_set {B = B} f (y ∷ l) (suc i) x = ap (λ (r : List B). f y ∷ r) (map_set f l i x)

-- ---- cells

pub cells_append : {A : Type 0} (enc : A → List ℕ) (l r : List A) → cells enc (l ++ r) ≡ cells enc l ++ cells enc r
unfolding cells
cells_append enc [] r = refl
cells_append enc (x ∷ l) r =
    rw (cells_append enc l r) (sym (append_assoc (enc x) (cells enc l) (cells enc r)))

-- one more
pub cells_snoc : {A : Type 0} (enc : A → List ℕ) (l : List A) (x : A) → cells enc (l ++ (x ∷ [])) ≡ cells enc l ++ enc x
unfolding cells
cells_snoc enc l x = cells_append enc l (x ∷ []) ∙ ap (λ (z : List ℕ). cells enc l ++ z) (append-nil (enc x))

-- of things that are all zeros
pub cells_zeros : {A : Type 0} (w : ℕ) (enc : A → List ℕ) (x : A) → enc x ≡ replicate w 0 → (n : ℕ) → cells enc (replicate n x) ≡ replicate (w * n) 0
unfolding cells
cells_zeros w enc x e zero = let q : w * 0 ≡ 0 = omega arith in rw q
cells_zeros w enc x e (suc n) =
    let q : w * suc n ≡ w + w * n = omega arith in
    rw (q, e, cells_zeros w enc x e n) (replicate-append-replicate w (w * n) 0)

module _ {A : Type 0} (w : ℕ) (enc : A → List ℕ) (sized : (x : A) → length (enc x) ≡ w) where
  pub cells_length : (l : List A) → length (cells enc l) ≡ w * length l
  unfolding cells
  cells_length [] = omega arith
  cells_length (x ∷ l) = length-append (enc x) (cells enc l) ∙ omega (arith, sized x, cells_length l)

  -- thing i put by its own bytes: the others stay
  pub cells_put : (l : List A) (i : ℕ) (x : A) → i < length l
      → cells enc (set l i x) ≡ take (w * i) (cells enc l) ++ (enc x ++ drop (w * i + w) (cells enc l))
  unfolding cells
  cells_put [] i x h = absurd (omega arith)
  cells_put (y ∷ l) zero x h =
      let e : w * 0 ≡ 0 = omega arith in
      let f : 0 + w ≡ w = omega arith in
      rw (e, f, drop_at (enc y) (cells enc l) w (sized y))
  cells_put (y ∷ l) (suc i) x h =
      let e : w * suc i ≡ w + w * i = omega arith in
      let f : w + w * i + w ≡ w + (w * i + w) = omega arith in
      rw (
        e,
        f,
        take_past (enc y) (cells enc l) w (w * i) (sized y),
        drop_past (enc y) (cells enc l) w (w * i + w) (sized y),
        append_assoc (enc y),
        cells_put l i x (omega arith),
      )

  -- thing i is read where it stands
  pub cells_at : (l : List A) (i : ℕ) (d : A) → i < length l → take w (drop (w * i) (cells enc l)) ≡ enc (get_or l i d)
  unfolding cells
  cells_at [] i d h = absurd (omega arith)
  cells_at (y ∷ l) zero d h = let e : w * 0 ≡ 0 = omega arith in rw (e, take_at (enc y) (cells enc l) w (sized y))
  cells_at (y ∷ l) (suc i) d h =
      let e : w * suc i ≡ w + w * i = omega arith in
      rw (e, drop_past (enc y) (cells enc l) w (w * i) (sized y)) (cells_at l i d (omega arith))

  -- the parts of cells, whatever follows them
  pub cells_parts : (l : List A) (r : List ℕ) → parts w (length l) (cells enc l ++ r) ≡ map enc l
  unfolding cells parts
  cells_parts [] r = refl
  cells_parts (x ∷ l) r =
      rw (
        append_assoc (enc x) (cells enc l) r,
        take_at (enc x) (cells enc l ++ r) w (sized x),
        drop_at (enc x) (cells enc l ++ r) w (sized x),
      )
      (ap (λ (t : List (List ℕ)). enc x ∷ t) (cells_parts l r))

  pub cells_take : (i : ℕ) (l : List A) → cells enc (take i l) ≡ take (w * i) (cells enc l)
  unfolding cells
  cells_take zero l = let e : w * 0 ≡ 0 = omega arith in rw e
  cells_take (suc i) [] = sym (take-nil (w * suc i))
  cells_take (suc i) (x ∷ l) =
      let e : w * suc i ≡ w + w * i = omega arith in
      rw (e, take_past (enc x) (cells enc l) w (w * i) (sized x), cells_take i l)

  pub cells_drop : (i : ℕ) (l : List A) → cells enc (drop i l) ≡ drop (w * i) (cells enc l)
  unfolding cells
  cells_drop zero l = let e : w * 0 ≡ 0 = omega arith in rw e
  cells_drop (suc i) [] = sym (drop-nil (w * suc i))
  cells_drop (suc i) (x ∷ l) =
      let e : w * suc i ≡ w + w * i = omega arith in
      rw (e, drop_past (enc x) (cells enc l) w (w * i) (sized x)) (cells_drop i l)
