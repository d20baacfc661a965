-- Structs and dict entries that are open at once: what is left of a value when so many rows are open, and how the walk goes on. The code keeps a count
-- of them where the definition calls itself.
use Rattle.std.specs.Prelude.{Option, Some, None}
use mathlib.Core.Path.{◌≡◌, refl, sym, ap, ◌∙◌}
use mathlib.Core.Bool.{Bool, true, false, cond, ◌&&◌, false≢true}
use mathlib.Core.List.{List, ◌∷◌}
use mathlib.Core.Logic.{⊎_elim}
use Prim.Native.Nat.{ℕ, zero, suc, ◌+◌, ◌-◌, ◌*◌, ◌/◌, ◌≤◌, ◌<◌}
use native.Mathlib.Nat.{add-zero, zero-add, sub_self}
use native.Mathlib.Decide.{dec_le}
use native.Mathlib.Omega.{arith}
use lib.Dec.{leb, eqb}
use lib.ListN.{length, take, drop, get_or}
use borrow.Author.Tests.{le-leb, lt-leb, leb-true}
use Rattle.wire.specs.Bytes.{front, all_zero}
use Rattle.wire.specs.Words.{word_at}
use Rattle.wire.specs.declared.Order.{Order}
use Rattle.wire.proofs.From.{next, first}
use Rattle.wire.proofs.Texts.{both_first}
use Rattle.signature.specs.Signature.{basic}
use Rattle.types.specs.Letters.{opens, closes, align_of}
use Rattle.types.specs.Types.{behind}
use Rattle.types.proofs.Behind.{hops, close_last, open_one}
use Rattle.types.proofs.Letters.{opens_only}
use Rattle.basics.specs.Values.{round_up, padded, plain_at, short_text_at, any_text}
use Rattle.variant.specs.declared.Begin.{Begin}
use Rattle.variant.specs.declared.Begin.TheVariants as begin
use Rattle.variant.specs.Opening.{open_limit, done_at, array_in, array_at, row_at, variant_at, opening_at, begin_of}
use Rattle.variant.specs.Walk.{value_of}
use Rattle.variant.specs.declared.Step.TheVariants as step
use Rattle.variant.specs.Promises.{row_of, stepped, step_in, step_of}
use Rattle.variant.proofs.Begins.{either}
use Rattle.variant.proofs.Fuel.{then, tail_of, row_is, value_row, value_bad}

-- ---- a row that begins

-- a letter that begins a row opens one, behind padding to a multiple of 8
abbrev pub RowIs : List ℕ → ℕ → ℕ → Option Begin → Type 0
RowIs h b at (Some (begin.Done to)) = Unit {0}
RowIs h b at (Some (begin.Array start to)) = Unit {0}
RowIs h b at (Some (begin.Row start)) = (opens b ≡ true) × (padded h 8 at ≡ Some start)
RowIs h b at (Some (begin.Variant from to)) = Unit {0}
RowIs h b at None = Unit {0}

done_row : (h : List ℕ) (b at : ℕ) (x : Option ℕ) → RowIs h b at (done_at x)
unfolding done_at
done_row h b at (Some n) = tt
done_row h b at None = tt

array_row : (o : Order) (h : List ℕ) (b at k : ℕ) → RowIs h b at (array_at o h k at)
unfolding array_at array_in
array_row o h b at k = go (padded h 4 at) refl
  where
    go : (x : Option ℕ) → padded h 4 at ≡ x → RowIs h b at (array_at o h k at)
    go None e = rw (array_at, e) tt
    go (Some a) e = rw (array_at, e) (inner (padded h k (a + 4)) refl)
      where
        inner : (y : Option ℕ) → padded h k (a + 4) ≡ y → RowIs h b at (array_in o h k a)
        inner None f = rw (array_in, f) tt
        inner (Some start) f = rw (array_in, f) (choose (leb (word_at o h a) (length h - start)) (start + word_at o h a))
          where
            choose : (z : Bool) (n : ℕ) → RowIs h b at (cond z (Some (begin.Array start n)) None)
            choose true n = tt
            choose false n = tt

variant_row : (h : List ℕ) (b at : ℕ) → RowIs h b at (variant_at h at)
unfolding variant_at
variant_row h b at = go (short_text_at any_text h at) refl
  where
    go : (x : Option ℕ) → short_text_at any_text h at ≡ x → RowIs h b at (variant_at h at)
    go None e = rw (variant_at, e) tt
    go (Some n) e = rw (variant_at, e) tt

row_row : (h : List ℕ) (b at : ℕ) → opens b ≡ true → RowIs h b at (row_at h at)
unfolding row_at
row_row h b at t = go (padded h 8 at) refl
  where
    go : (x : Option ℕ) → padded h 8 at ≡ x → RowIs h b at (row_at h at)
    go None e = rw (row_at, e) tt
    go (Some n) e = rw (row_at, e) (t, e)

pub begin_row : (o : Order) (h : List ℕ) (d b : ℕ) (s : List ℕ) (at : ℕ) → RowIs h b at (begin_of o h d (b ∷ s) at)
unfolding begin_of opening_at
begin_row o h d b s at = go (basic b) (leb open_limit d) (eqb b 97) (opens b) refl (eqb b 118)
  where
    go : (v w x y : Bool) → opens b ≡ y → (z : Bool)
        → RowIs h b at
        (cond v (done_at (plain_at o h b at))
        (cond w None
        (cond x (array_at o h (align_of (front s)) at) (cond y (row_at h at) (cond z (variant_at h at) None)))))
    go true w x y e z = done_row h b at (plain_at o h b at)
    go false true x y e z = tt
    go false false true y e z = array_row o h b at (align_of (front s))
    go false false false true e z = row_row h b at e
    go false false false false e true = variant_row h b at
    go false false false false e false = tt

-- padding that has been passed is not there again
pad_again : (h : List ℕ) (at a : ℕ) → padded h 8 at ≡ Some a → padded h 8 a ≡ Some a
unfolding padded round_up all_zero
pad_again h at a e = go (leb ((at + 7) / 8 * 8) (length h) && all_zero (take ((at + 7) / 8 * 8 - at) (drop at h))) refl
  where
    place : Option ℕ → ℕ
    place (Some n) = n
    place None = 0

    go : (x : Bool) → leb ((at + 7) / 8 * 8) (length h) && all_zero (take ((at + 7) / 8 * 8 - at) (drop at h)) ≡ x → padded h 8 a ≡ Some a
    go true q =
        let f : (at + 7) / 8 * 8 ≡ a = ap place (rw q at e) in
        let l : (at + 7) / 8 * 8 ≤ length h = leb-true ((at + 7) / 8 * 8) (length h) (both_first _ _ q) in
        let r : (a + 7) / 8 * 8 ≡ a = omega arith in
        rw (r, le-leb a (length h) (omega arith), sub_self a)
    go false q = absurd (bad (rw q at e))
      where
        bad : None ≡ Some a → ⊥
        bad z = let n : ◌≡◌ {A = ℕ} 0 1 = cc in omega arith

module _ (o : Order) (h : List ℕ) (d b : ℕ) (s : List ℕ) (at : ℕ) (t : opens b ≡ true) where
  row_deep : open_limit ≤ d → begin_of o h d (b ∷ s) at ≡ None
  unfolding begin_of
  row_deep l = ⊎_elim (λ e. rw e (rw (le-leb open_limit d l))) (λ e. rw e (rw (le-leb open_limit d l))) (either b 40 123 t)

  row_begins : d < open_limit → {a : ℕ} → padded h 8 at ≡ Some a → begin_of o h d (b ∷ s) at ≡ Some (begin.Row a)
  unfolding begin_of opening_at row_at
  row_begins l p =
      ⊎_elim (λ e. rw e (rw (lt-leb open_limit d l, row_at, p))) (λ e. rw e (rw (lt-leb open_limit d l, row_at, p))) (either b 40 123 t)

no_row : (v : Option ℕ) {start : ℕ} → stepped v ≡ Some (step.Row start) → ⊥
no_row (Some n) e = let z : ◌≡◌ {A = ℕ} 0 1 = cc in omega arith
no_row None e = let z : ◌≡◌ {A = ℕ} 0 1 = cc in omega arith

-- ---- what is left

then_at : (x : Option ℕ) → then x (λ n. Some n) ≡ x
then_at None = refl
then_at (Some n) = refl

then_then : (x : Option ℕ) (f g : ℕ → Option ℕ) → then (then x f) g ≡ then x (λ n. then (f n) g)
then_then None f g = refl
then_then (Some n) f g = refl

then_same : (x : Option ℕ) {f g : ℕ → Option ℕ} → ((n : ℕ) → f n ≡ g n) → then x f ≡ then x g
then_same None e = refl
then_same (Some n) e = e n

module _ (o : Order) (h : List ℕ) (d : ℕ) (s : List ℕ) (at : ℕ) where
  tail_closed : closes (front s) ≡ true → tail_of o h d s at ≡ Some at
  tail_closed t = by (closes (front s)) t
    where
      by : (c : Bool) → c ≡ true → ◌≡◌ {A = Option ℕ} (elim c [ true ↦ Some at | false ↦ row_of o h d s at ]) (Some at)
      by true e = refl
      by false e = absurd (false≢true e)

  tail_more : closes (front s) ≡ false → tail_of o h d s at ≡ row_of o h d s at
  tail_more t = by (closes (front s)) t
    where
      by : (c : Bool) → c ≡ false → ◌≡◌ {A = Option ℕ} (elim c [ true ↦ Some at | false ↦ row_of o h d s at ]) (row_of o h d s at)
      by true e = absurd (false≢true (sym e))
      by false e = refl

module _ (o : Order) (h : List ℕ) (base : ℕ) where
  -- n rows are open, a value of the innermost has stopped, and s stands behind its type
  unfoldable pub rest : ℕ → List ℕ → ℕ → Option ℕ
  rest zero s at = Some at
  rest (suc n) s at = then (tail_of o h (base + suc n) s at) (λ q. rest n (behind 1 s) q)

  -- n rows are open, and a value of the innermost begins
  abbrev pub pending : ℕ → List ℕ → ℕ → Option ℕ
  pending n s at = then (value_of o h (base + n) s at) (λ q. rest n (behind 0 s) q)

  pub pending_first : (s : List ℕ) (at : ℕ) → value_of o h base s at ≡ pending 0 s at
  unfolding rest
  pending_first s at = rw (add-zero base) (sym (then_at (value_of o h base s at)))

  -- the first value of a row that is opened, or the next one
  row_goes : (n : ℕ) (s : List ℕ) (at : ℕ) → then (row_of o h (base + suc n) s at) (λ q. rest n (behind 1 s) q) ≡ pending (suc n) s at
  unfolding rest
  row_goes n s at =
      rw (row_is o h (base + suc n) s at)
      (then_then (value_of o h (base + suc n) s at) (λ q. tail_of o h (base + suc n) (behind 0 s) q) (λ q. rest n (behind 1 s) q)
      ∙ then_same (value_of o h (base + suc n) s at)
      (λ q. ap (λ (x : List ℕ). then (tail_of o h (base + suc n) (behind 0 s) q) (λ r. rest n x r)) (sym (hops s))))

  -- ---- opening bytes

  module _ (s : List ℕ) where
    -- one more row
    pub open_row : (n j at : ℕ) → j < length s → opens (get_or s j 0) ≡ true → {start : ℕ} → begin_of o h (base + n) (drop j s) at ≡ Some (begin.Row start)
        → pending n (drop j s) at ≡ pending (suc n) (drop (j + 1) s) start
    open_row n j at l t {start} e =
        let d : base + n + 1 ≡ base + suc n = omega arith in
        rw (value_row o h (base + n) (drop j s) at e, next s j l, open_one (get_or s j 0) (drop (j + 1) s) (opens_only (get_or s j 0) t) t 0, d)
        (row_goes n (drop (j + 1) s) start)

    module _ (at : ℕ) {a : ℕ} (p : padded h 8 at ≡ Some a) where
      -- k opening bytes in a row open as many rows at one place
      pub open_run : (k n j : ℕ) → j + k ≤ length s → base + n + k ≤ open_limit → ((i : ℕ) → j ≤ i → i < j + k → opens (get_or s i 0) ≡ true)
          → pending n (drop j s) a ≡ pending (n + k) (drop (j + k) s) a
      open_run zero n j l d all = rw (add-zero j, add-zero n)
      open_run (suc k) n j l d all =
          let t : opens (get_or s j 0) ≡ true = all j (omega arith) (omega arith) in
          let e : j + 1 + k ≡ j + suc k = omega arith in
          let f : suc n + k ≡ n + suc k = omega arith in
          open_row n j a (omega arith) t
          (rw (next s j (omega arith)) (row_begins o h (base + n) (get_or s j 0) (drop (j + 1) s) a t (omega arith) (pad_again h at a p)))
          ∙ open_run k (suc n) (j + 1) (omega arith) (omega arith) (λ i l m. all i (omega arith) (omega arith))
          ∙ rw (e, f)

      -- more of them than may be open are bad
      pub open_deep : (k n j : ℕ) → j + k ≤ length s → base + n ≤ open_limit → open_limit < base + n + k
          → ((i : ℕ) → j ≤ i → i < j + k → opens (get_or s i 0) ≡ true) → pending n (drop j s) a ≡ None
      open_deep zero n j l d m all = absurd (omega arith)
      open_deep (suc k) n j l d m all =
          go (dec_le open_limit (base + n)) (λ q. open_deep k (suc n) (j + 1) (omega arith) q (omega arith) (λ i l m. all i (omega arith) (omega arith)))
        where
          t : opens (get_or s j 0) ≡ true
          t = all j (omega arith) (omega arith)

          go : Dec (open_limit ≤ base + n) → (base + suc n ≤ open_limit → pending (suc n) (drop (j + 1) s) a ≡ None) → pending n (drop j s) a ≡ None
          go (yes q) w =
              rw (value_bad o h (base + n) (drop j s) a
              (rw (next s j (omega arith)) (row_deep o h (base + n) (get_or s j 0) (drop (j + 1) s) a t q)))
          go (no q) w =
              open_row n j a (omega arith) t
              (rw (next s j (omega arith)) (row_begins o h (base + n) (get_or s j 0) (drop (j + 1) s) a t (omega (arith, q)) (pad_again h at a p)))
              ∙ w (omega (arith, q))

    -- ---- closing bytes

    -- k closing bytes in a row close as many rows
    pub close_run : (k n j at : ℕ) → j + k ≤ length s → ((i : ℕ) → j ≤ i → i < j + k → closes (get_or s i 0) ≡ true)
        → rest (n + k) (drop j s) at ≡ rest n (drop (j + k) s) at
    unfolding rest
    close_run zero n j at l all = rw (add-zero j, add-zero n)
    close_run (suc k) n j at l all =
        let t : closes (get_or s j 0) ≡ true = all j (omega arith) (omega arith) in
        let e : j + 1 + k ≡ j + suc k = omega arith in
        let f : n + suc k ≡ suc (n + k) = omega arith in
        rw (f, tail_closed o h (base + suc (n + k)) (drop j s) at (rw (first s j) t), next s j (omega arith), close_last (get_or s j 0) (drop (j + 1) s) t)
        (close_run k n (j + 1) at (omega arith) (λ i l m. all i (omega arith) (omega arith)) ∙ rw e)

    pub close_all : (k n j at : ℕ) → j + k ≤ length s → n ≤ k → ((i : ℕ) → j ≤ i → i < j + k → closes (get_or s i 0) ≡ true)
        → rest n (drop j s) at ≡ Some at
    unfolding rest
    close_all k n j at l m all = rw (zero-add n) at (close_run n 0 j at (omega arith) (λ i p q. all i (omega arith) (omega arith)))

    -- a row goes on behind a value
    pub row_more : (n j at : ℕ) → closes (get_or s j 0) ≡ false → rest (suc n) (drop j s) at ≡ pending (suc n) (drop j s) at
    unfolding rest
    row_more n j at t = rw (tail_more o h (base + suc n) (drop j s) at (rw (first s j) t)) (row_goes n (drop j s) at)

-- ---- what a step says

pub step_row : (o : Order) (h : List ℕ) (d : ℕ) (s : List ℕ) (at : ℕ) {start : ℕ} → step_of o h d s at ≡ Some (step.Row start) → begin_of o h d s at ≡ Some (begin.Row start)
step_row o h d s at {start} e = go (begin_of o h d s at) (value_of o h d s at) e
  where
    go : (x : Option Begin) (v : Option ℕ) → step_in x v ≡ Some (step.Row start) → x ≡ Some (begin.Row start)
    go (Some (begin.Row a)) v q = let n : a ≡ start = cc in ap (λ (m : ℕ). Some (begin.Row m)) n
    go (Some (begin.Done a)) v q = absurd (no_row v q)
    go (Some (begin.Array a b)) v q = absurd (no_row v q)
    go (Some (begin.Variant a b)) v q = absurd (no_row v q)
    go None v q = absurd (no_row v q)

pub step_value : (o : Order) (h : List ℕ) (d : ℕ) (s : List ℕ) (at : ℕ) (v : Option ℕ) → step_of o h d s at ≡ stepped v → value_of o h d s at ≡ v
step_value o h d s at v e = go (begin_of o h d s at) (value_of o h d s at) e
  where
    same : (x y : Option ℕ) → stepped x ≡ stepped y → x ≡ y
    same (Some a) (Some b) q = let n : a ≡ b = cc in ap Some n
    same (Some a) None q = absurd (let n : ◌≡◌ {A = ℕ} 0 1 = cc in omega arith)
    same None (Some b) q = absurd (let n : ◌≡◌ {A = ℕ} 0 1 = cc in omega arith)
    same None None q = refl

    go : (x : Option Begin) (w : Option ℕ) → step_in x w ≡ stepped v → w ≡ v
    go (Some (begin.Row a)) w q = absurd (no_row v (sym q))
    go (Some (begin.Done a)) w q = same w v q
    go (Some (begin.Array a b)) w q = same w v q
    go (Some (begin.Variant a b)) w q = same w v q
    go None w q = same w v q
