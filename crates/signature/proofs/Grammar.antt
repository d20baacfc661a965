-- What the reader knows of one type and of a row at an index, from what its callees ensure and which variants they returned: a lemma for each way
-- through the code, whose premises are what the code knows on that way.
use Rattle.std.proofs.Common.{◌≡◌, refl, subst, Bool, true, false, ◌&&◌, ◌||◌, List, ◌∷◌, ℕ, zero, suc, ◌+◌, ◌-◌, ◌*◌, ◌≤◌, ◌<◌, arith, add-zero}
use Rattle.std.proofs.Common.{zero-add, leb, eqb, length, drop, get_or, rules, ne_eqb, Some, None}
use mathlib.Core.Bool.{false≢true}
use mathlib.Core.Option.{none}
use Rattle.std.specs.Prelude.{Option as Maybe}
use Rattle.wire.specs.Bytes.{byte}
use Rattle.wire.proofs.From.{next, past, skip}
use Rattle.signature.specs.Signature.{basic, head_of, closed_by, one, row}
use Rattle.signature.specs.Reader.{left_of, row_of, HeadFits, StepFits, RunFits, HeadAt, OneAt, RowAt}
use Rattle.signature.specs.declared.FirstCode.{FirstCode}
use Rattle.signature.specs.declared.FirstCode.TheVariants as head
use Rattle.signature.specs.declared.RowEnd.{RowEnd}

-- n types, which end at `end`
abbrev row_to : ℕ → ℕ → Maybe RowEnd
row_to n end = Some (record { types = n; end = end })

-- the case of what is there
pub found : {x : Maybe FirstCode} {y z : FirstCode} → x ≡ Some y → y ≡ z → x ≡ Some z
found e q = rw (e, q)

-- a type that ends past a later start ends past this one
further : (s : List ℕ) (at from : ℕ) → at ≤ from → (r : Maybe ℕ) → StepFits s from r → StepFits s at r
further s at from h (Some k) f = omega arith
further s at from h None f = tt

-- ---- what a variant says of places

module _ {s : List ℕ} {at arrays parens : ℕ} where
  module _ {x : Maybe FirstCode} (h : HeadAt s at arrays parens x) where
    pub head_in_lem : {y : Maybe FirstCode} → x ≡ y → HeadFits s at arrays parens y
    head_in_lem e = (subst (HeadAt s at arrays parens) e h).fits

  pub type_in_lem : {x : Maybe ℕ} → OneAt s at arrays parens x → {k : ℕ} → x ≡ Some k → (at < k) × (k ≤ length s)
  type_in_lem o e = (subst (OneAt s at arrays parens) e o).fits

  pub row_in : {m : Maybe RowEnd} → RowAt s at arrays parens m → {t : RowEnd} → m ≡ Some t → (at ≤ t.end) × (t.types ≤ length s - at)
  row_in w e = (subst (RowAt s at arrays parens) e w).fits

-- ---- one type

-- no fuel is never enough: what each way through the code shows is one step of the rule
module _ {s : List ℕ} {at arrays parens : ℕ} where
  one_is : {r : Maybe ℕ} → at < length s → StepFits s at r
      → ((fuel : ℕ) → 2 * (length s - at) ≤ suc fuel → left_of s r ≡ one (suc fuel) arrays parens (drop at s)) → OneAt s at arrays parens r
  one_is h f step = record { is = λ fuel l. let e : fuel ≡ suc (fuel - 1) = omega arith in rw e (step (fuel - 1) (omega arith)); fits = f }

  row_is : {r : Maybe RowEnd} → RunFits s at r
      → ((fuel : ℕ) → 2 * (length s - at) ≤ fuel → row_of s r ≡ row (suc fuel) arrays parens (drop at s)) → RowAt s at arrays parens r
  row_is f step = record { is = λ fuel l. let e : fuel ≡ suc (fuel - 1) = omega arith in rw e (step (fuel - 1) (omega arith)); fits = f }

module _ {s : List ℕ} {at arrays parens : ℕ} {x : Maybe FirstCode} (h : HeadAt s at arrays parens x) where
  pub plain : x ≡ Some head.Plain → OneAt s at arrays parens (Some (at + 1))
  unfolding one
  plain e = one_is (head_in_lem h e) (omega (arith, head_in_lem h e)) (λ fuel l. rw (one, ← h.is, e, skip s at 1 (at + 1) refl))

  pub array : x ≡ Some head.Array → {r : Maybe ℕ} → OneAt s (at + 1) (arrays + 1) parens r → OneAt s at arrays parens r
  unfolding one
  array e {r} o =
      one_is (head_in_lem h e).0 (further s at (at + 1) (omega arith) r o.fits)
      (λ fuel l. rw (one, ← h.is, e, skip s at 1 (at + 1) refl) (o.is fuel (omega (arith, head_in_lem h e))))

  pub other : x ≡ None → {r : Maybe ℕ} → r ≡ None → OneAt s at arrays parens r
  unfolding one
  other e q = rw q (record { is = go; fits = tt })
    where
      go : (fuel : ℕ) → 2 * (length s - at) ≤ fuel → none ≡ one fuel arrays parens (drop at s)
      go zero l = refl
      go (suc fuel) l = rw (one, ← h.is, e)

  module _ {key : Bool} (e : x ≡ Some (head.Dict key)) {m : Maybe RowEnd} (w : RowAt s (at + 2) (arrays + 1) parens m) where
    pub dict : {t : RowEnd} → m ≡ Some t → {r : Maybe ℕ} → left_of s r ≡ closed_by (byte "}") (key && eqb t.types 2) (drop t.end s)
        → StepFits s t.end r → OneAt s at arrays parens r
    unfolding one
    dict {t} q {r} d f =
        one_is (head_in_lem h e).0 (further s at t.end (omega (arith, row_in w q)) r f)
        (λ fuel l. rw (one, ← h.is, e, skip s at 2 (at + 2) refl, ← w.is fuel (omega (arith, head_in_lem h e)), q) d)

    pub dict_bad : m ≡ None → {r : Maybe ℕ} → r ≡ None → OneAt s at arrays parens r
    unfolding one
    dict_bad q {r} p = rw p (one_is (head_in_lem h e).0 tt (λ fuel l. rw (one, ← h.is, e, skip s at 2 (at + 2) refl, ← w.is fuel (omega (arith, head_in_lem h e)), q)))

  module _ (e : x ≡ Some head.Paren) {m : Maybe RowEnd} (w : RowAt s (at + 1) arrays (parens + 1) m) where
    pub paren : {t : RowEnd} → m ≡ Some t → {r : Maybe ℕ} → left_of s r ≡ closed_by (byte ")") (leb 1 t.types) (drop t.end s)
        → StepFits s t.end r → OneAt s at arrays parens r
    unfolding one
    paren {t} q {r} d f =
        one_is (head_in_lem h e).0 (further s at t.end (omega (arith, row_in w q)) r f)
        (λ fuel l. rw (one, ← h.is, e, skip s at 1 (at + 1) refl, ← w.is fuel (omega (arith, head_in_lem h e)), q) d)

    pub paren_bad : m ≡ None → {r : Maybe ℕ} → r ≡ None → OneAt s at arrays parens r
    unfolding one
    paren_bad q {r} p = rw p (one_is (head_in_lem h e).0 tt (λ fuel l. rw (one, ← h.is, e, skip s at 1 (at + 1) refl, ← w.is fuel (omega (arith, head_in_lem h e)), q)))

-- ---- a row

module _ {s : List ℕ} {at arrays parens : ℕ} where
  pub at_end : length s ≤ at → RowAt s at arrays parens (row_to 0 at)
  unfolding row
  at_end h = row_is (omega arith) (λ fuel l. rw (past s at h))

  pub at_close : at < length s → eqb (get_or s at 0) (byte ")") || eqb (get_or s at 0) (byte "}") ≡ true → RowAt s at arrays parens (row_to 0 at)
  unfolding row
  at_close h t = row_is (omega arith) (λ fuel l. rw (row, next s at h, t))

  module _ (h : at < length s) (t : eqb (get_or s at 0) (byte ")") || eqb (get_or s at 0) (byte "}") ≡ false)
      {x : Maybe ℕ} (o : OneAt s at arrays parens x) where
    -- the type in front, where its first byte is written out
    front_is : (fuel : ℕ) → 2 * (length s - at) ≤ fuel → left_of s x ≡ one fuel arrays parens (get_or s at 0 ∷ drop (at + 1) s)
    front_is fuel l = rw (next s at h) at (o.is fuel l)

    pub at_bad : x ≡ None → RowAt s at arrays parens None
    unfolding row
    at_bad e = row_is tt (λ fuel l. rw (row, next s at h, t, ← front_is fuel l, e))

    module _ {k : ℕ} (e : x ≡ Some k) {m : Maybe RowEnd} (w : RowAt s k arrays parens m) where
      pub more : {t : RowEnd} → m ≡ Some t → RowAt s at arrays parens (row_to (t.types + 1) t.end)
      unfolding row
      more q =
          row_is (omega (arith, type_in_lem o e, row_in w q))
          (λ fuel l. rw (row, next s at h, t, ← front_is fuel l, e, ← w.is fuel (omega (arith, type_in_lem o e)), q))

      pub more_bad : m ≡ None → RowAt s at arrays parens None
      unfolding row
      more_bad q = row_is tt (λ fuel l. rw (row, next s at h, t, ← front_is fuel l, e, ← w.is fuel (omega (arith, type_in_lem o e)), q))

-- ---- a row that is being read: n types from `at` on have been passed, and what is left starts at i

-- n types more, in front
abbrev shifted : ℕ → Maybe RowEnd → Maybe RowEnd
shifted n (Some t) = row_to (t.types + n) t.end
shifted n None = None

pub record Going (s : List ℕ) (at arrays parens i n : ℕ) : Type 0 where
  pub low : at ≤ i
  pub few : n + (length s - i) ≤ length s - at
  pub rest : (r : Maybe RowEnd) → RowAt s i arrays parens r → RowAt s at arrays parens (shifted n r)

pub going_begin : {s : List ℕ} {at arrays parens : ℕ} → Going s at arrays parens at 0
going_begin {s} {at} {arrays} {parens} = record { low = omega arith; few = omega arith; rest = same }
  where
    same : (r : Maybe RowEnd) → RowAt s at arrays parens r → RowAt s at arrays parens (shifted 0 r)
    same (Some t) w = rw (add-zero t.types) w
    same None w = w

-- the byte at i is a letter that is a type
letter_head : {s : List ℕ} {i arrays parens : ℕ} → i < length s → basic (get_or s i 0) || eqb (get_or s i 0) (byte "v") ≡ true → HeadAt s i arrays parens (Some head.Plain)
unfolding head_of
letter_head {s} {i} h t = record { is = rw (next s i h, t); fits = h }

-- such a letter closes nothing
letter_open : (b : ℕ) → basic b || eqb b (byte "v") ≡ true → eqb b (byte ")") || eqb b (byte "}") ≡ false
letter_open b t = rw (ne_eqb b (byte ")") (λ e. false≢true (rw e at t)), ne_eqb b (byte "}") (λ e. false≢true (rw e at t)))

module _ {s : List ℕ} {at arrays parens i n : ℕ} (g : Going s at arrays parens i n) where
  pub going_end : length s ≤ i → RowAt s at arrays parens (row_to n i)
  going_end h = rw (zero-add n) at (g.rest (row_to 0 i) (at_end h))

  module _ (h : i < length s) where
    pub going_close : eqb (get_or s i 0) (byte ")") || eqb (get_or s i 0) (byte "}") ≡ true → RowAt s at arrays parens (row_to n i)
    going_close t = rw (zero-add n) at (g.rest (row_to 0 i) (at_close h t))

    module _ (t : eqb (get_or s i 0) (byte ")") || eqb (get_or s i 0) (byte "}") ≡ false) {x : Maybe ℕ} (o : OneAt s i arrays parens x) where
      pub going_bad : x ≡ None → {r : Maybe RowEnd} → r ≡ None → RowAt s at arrays parens r
      going_bad e q = rw q (g.rest None (at_bad h t o e))

      pub going_on : {k : ℕ} → x ≡ Some k → Going s at arrays parens k (n + 1)
      going_on {k} e = record { low = omega (arith, type_in_lem o e); few = omega (arith, type_in_lem o e); rest = one_more_lem }
        where
          one_more_lem : (r : Maybe RowEnd) → RowAt s k arrays parens r → RowAt s at arrays parens (shifted (n + 1) r)
          one_more_lem (Some u) w =
              let q : u.types + 1 + n ≡ u.types + (n + 1) = omega arith in
              rw q at (g.rest (row_to (u.types + 1) u.end) (more h t o e w refl))
          one_more_lem None w = g.rest None (more_bad h t o e w refl)

    pub going_letter : {k : Bool} → k ≡ basic (get_or s i 0) → k || eqb (get_or s i 0) (byte "v") ≡ true → Going s at arrays parens (i + 1) (n + 1)
    going_letter e p =
        let t : basic (get_or s i 0) || eqb (get_or s i 0) (byte "v") ≡ true = rw e at p in
        going_on (letter_open (get_or s i 0) t) (plain (letter_head h t) refl) refl

-- what answers each need of `list` that is not of numbers alone
pub ruleset ways = (going_begin, going_end, going_close, going_letter, rules)
