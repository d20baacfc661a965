-- The signature rule's fuel never runs out: two a byte is enough, and more changes nothing.
use Rattle.std.proofs.Common.{◌≡◌, refl, ap, subst, Bool, true, false, ◌&&◌, List, [], ◌∷◌, ℕ, zero, suc, ◌+◌, ◌*◌, ◌≤◌, ◌<◌, arith, length}
use Rattle.std.proofs.Common.{drop, length-drop, Some, None}
use mathlib.Core.Option.{Option, none, some}
use Rattle.std.specs.Prelude.{Option as Maybe}
use Rattle.wire.specs.Bytes.{one_of}
use Rattle.signature.specs.Signature.{Row, head_of, closed_by, tuple, dict_entry, one_more, one, row}
use Rattle.signature.specs.declared.FirstCode.{FirstCode}
use Rattle.signature.specs.declared.FirstCode.TheVariants.{Plain, Array, Dict, Paren}

-- what is left is shorter than s, or no longer
abbrev Shorter : List ℕ → Option (List ℕ) → Type 0
Shorter s none = Unit {0}
Shorter s (some r) = length r < length s

abbrev NoLonger : List ℕ → Option Row → Type 0
NoLonger s none = Unit {0}
NoLonger s (some r) = length r.1 ≤ length s

closed_shorter : (by : ℕ) (well : Bool) (s t : List ℕ) → length s ≤ length t → Shorter t (closed_by by well s)
unfolding closed_by
closed_shorter by well [] t h = tt
closed_shorter by well (b ∷ s) t h = go (well && lib.Dec.eqb b by)
  where
    go : (x : Bool) → Shorter t (mathlib.Core.Bool.cond x (some s) none)
    go true = omega arith
    go false = tt

entry_shorter : (key : Bool) (s t : List ℕ) (o : Option Row) → length s ≤ length t → NoLonger s o → Shorter t (dict_entry key o)
entry_shorter key s t none h k = tt
entry_shorter key s t (some r) h k = closed_shorter _ _ r.1 t (omega arith)

tuple_shorter : (s t : List ℕ) (o : Option Row) → length s ≤ length t → NoLonger s o → Shorter t (tuple o)
tuple_shorter s t none h k = tt
tuple_shorter s t (some r) h k = closed_shorter _ _ r.1 t (omega arith)

-- a step of each, from what holds at one unit of fuel less
module _ (f : ℕ) (ones : (a p : ℕ) (s : List ℕ) → Shorter s (one f a p s)) (rows : (a p : ℕ) (s : List ℕ) → NoLonger s (row f a p s)) where
  one_step : (a p b : ℕ) (s : List ℕ) (x : Maybe FirstCode) → head_of a p (b ∷ s) ≡ x → Shorter (b ∷ s) (one (suc f) a p (b ∷ s))
  unfolding one
  one_step a p b s (Some Plain) e = rw (one, e) (omega arith)
  one_step a p b s (Some Array) e = rw (one, e) (longer s b (one f (a + 1) p s) (ones (a + 1) p s))
    where
      longer : (s : List ℕ) (b : ℕ) (o : Option (List ℕ)) → Shorter s o → Shorter (b ∷ s) o
      longer s b none h = tt
      longer s b (some r) h = omega arith
  one_step a p b s (Some (Dict key)) e =
      rw (one, e) (entry_shorter key (drop 1 s) (b ∷ s) (row f (a + 1) p (drop 1 s)) (omega (arith, length-drop 1 s)) (rows (a + 1) p (drop 1 s)))
  one_step a p b s (Some Paren) e = rw (one, e) (tuple_shorter s (b ∷ s) (row f a (p + 1) s) (omega arith) (rows a (p + 1) s))
  one_step a p b s None e = rw (one, e) tt

  row_step : (a p b : ℕ) (s : List ℕ) (x : Bool) → one_of false ")}" b ≡ x
      → (o : Option (List ℕ)) → one f a p (b ∷ s) ≡ o → NoLonger (b ∷ s) (row (suc f) a p (b ∷ s))
  unfolding row
  row_step a p b s true e o q = rw (row, e) (omega arith)
  row_step a p b s false e none q = rw (row, e, q) tt
  row_step a p b s false e (some r) q =
      rw (row, e, q) (counted (row f a p r) (rows a p r) (subst (Shorter (b ∷ s)) q (ones a p (b ∷ s))))
    where
      counted : (o : Option Row) → NoLonger r o → Shorter (b ∷ s) (some r) → NoLonger (b ∷ s) (one_more o)
      counted none h k = tt
      counted (some r) h k = omega arith

mutual
  unfolding one row head_of

  one_shorter : (f a p : ℕ) (s : List ℕ) → Shorter s (one f a p s)
  one_shorter zero a p s = tt
  one_shorter (suc f) a p [] = tt
  one_shorter (suc f) a p (b ∷ s) = one_step f (λ a p s. one_shorter f a p s) (λ a p s. row_shorter f a p s) a p b s (head_of a p (b ∷ s)) refl

  row_shorter : (f a p : ℕ) (s : List ℕ) → NoLonger s (row f a p s)
  row_shorter zero a p s = tt
  row_shorter (suc f) a p [] = omega arith
  row_shorter (suc f) a p (b ∷ s) =
      row_step f (λ a p s. one_shorter f a p s) (λ a p s. row_shorter f a p s) a p b s (one_of false ")}" b) refl (one f a p (b ∷ s)) refl

-- ---- two amounts of fuel that are enough

module _ (f g : ℕ)
    (ones : (a p : ℕ) (s : List ℕ) → 2 * length s ≤ f → 2 * length s ≤ g → one f a p s ≡ one g a p s)
    (rows : (a p : ℕ) (s : List ℕ) → 2 * length s + 1 ≤ f → 2 * length s + 1 ≤ g → row f a p s ≡ row g a p s) where
  one_same : (a p b : ℕ) (s : List ℕ) (x : Maybe FirstCode) → head_of a p (b ∷ s) ≡ x → 2 * length (b ∷ s) ≤ suc f → 2 * length (b ∷ s) ≤ suc g
      → one (suc f) a p (b ∷ s) ≡ one (suc g) a p (b ∷ s)
  unfolding one
  one_same a p b s (Some Plain) e h k = rw (one, e)
  one_same a p b s (Some Array) e h k = rw (one, e) (ones (a + 1) p s (omega arith) (omega arith))
  one_same a p b s (Some (Dict key)) e h k =
      rw (one, e) (ap (dict_entry key) (rows (a + 1) p (drop 1 s) (omega (arith, length-drop 1 s)) (omega (arith, length-drop 1 s))))
  one_same a p b s (Some Paren) e h k = rw (one, e) (ap tuple (rows a (p + 1) s (omega arith) (omega arith)))
  one_same a p b s None e h k = rw (one, e)

  row_same : (a p b : ℕ) (s : List ℕ) (x : Bool) → one_of false ")}" b ≡ x → (o : Option (List ℕ)) → one g a p (b ∷ s) ≡ o
      → 2 * length (b ∷ s) + 1 ≤ suc f → 2 * length (b ∷ s) + 1 ≤ suc g → row (suc f) a p (b ∷ s) ≡ row (suc g) a p (b ∷ s)
  unfolding row
  row_same a p b s true e o q h k = rw (row, e)
  row_same a p b s false e none q h k = rw (row, e, ones a p (b ∷ s) (omega arith) (omega arith), q)
  row_same a p b s false e (some r) q h k =
      let l : length r < length (b ∷ s) = subst (Shorter (b ∷ s)) q (one_shorter g a p (b ∷ s)) in
      rw (row, e, ones a p (b ∷ s) (omega arith) (omega arith), q) (ap one_more (rows a p r (omega arith) (omega arith)))

mutual
  unfolding one row head_of

  one_enough : (f g a p : ℕ) (s : List ℕ) → 2 * length s ≤ f → 2 * length s ≤ g → one f a p s ≡ one g a p s
  one_enough zero zero a p s h k = refl
  one_enough zero (suc g) a p [] h k = refl
  one_enough zero (suc g) a p (b ∷ s) h k = absurd (omega arith)
  one_enough (suc f) zero a p [] h k = refl
  one_enough (suc f) zero a p (b ∷ s) h k = absurd (omega arith)
  one_enough (suc f) (suc g) a p [] h k = refl
  one_enough (suc f) (suc g) a p (b ∷ s) h k =
      one_same f g (λ a p s h k. one_enough f g a p s h k) (λ a p s h k. row_enough f g a p s h k) a p b s (head_of a p (b ∷ s)) refl h k

  pub row_enough : (f g a p : ℕ) (s : List ℕ) → 2 * length s + 1 ≤ f → 2 * length s + 1 ≤ g → row f a p s ≡ row g a p s
  row_enough zero g a p s h k = absurd (omega arith)
  row_enough (suc f) zero a p s h k = absurd (omega arith)
  row_enough (suc f) (suc g) a p [] h k = refl
  row_enough (suc f) (suc g) a p (b ∷ s) h k =
      row_same f g (λ a p s h k. one_enough f g a p s h k) (λ a p s h k. row_enough f g a p s h k) a p b s (one_of false ")}" b) refl (one g a p (b ∷ s))
      refl h k
