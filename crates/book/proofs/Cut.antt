-- The model's cut, one byte on: the byte begins a message where the one before it was whole, and joins it where not.
use mathlib.Core.Path.{◌≡◌, refl, sym, ap, ◌∙◌}
use mathlib.Core.Bool.{true, false, cond, false≢true}
use mathlib.Core.List.{List, [], ◌∷◌, ◌++◌}
use Prim.Native.Nat.{ℕ, zero, suc, ◌+◌, ◌≤◌, ◌<◌}
use native.Mathlib.Omega.{arith}
use native.Mathlib.Numerals.{add-one}
use lib.Dec.{ltb}
use lib.ListN.{length, take, drop, length-append, length-drop, drop_of_length-le}
use lib.Seq.{take-append-le, drop-append-le, take_at}
use borrow.Author.Tests.{lt-ltb, le-ltb, ltb-true, ltb-false}
use Rattle.wire.proofs.Texts.{impossible, both_first, both_second}
use Rattle.header.specs.declared.Header.{Header}
use Rattle.std.specs.Prelude.{Ok, Err}
use Rattle.header.specs.declared.Unread.TheVariants.{Short, Broken}
use Rattle.header.specs.Fixed.{head_length}
use Rattle.header.specs.Header.{Reading, read_header}
use Rattle.header.proofs.Readings.{read_few, read_front, read_append, whole_fits}
use Rattle.stream.specs.Stream.{Verdict, more, whole}
use Rattle.stream.specs.Tail.{finished}
use Rattle.wire.proofs.Tests.{clash, refute, choice, by_test}
use Rattle.book.specs.Book.{first_verdict, is_whole, size, past, cut_off, current}

-- one byte more
abbrev pub snoc : List ℕ → ℕ → List ℕ
snoc xs b = xs ++ (b ∷ [])

pub length_snoc : (xs : List ℕ) (b : ℕ) → length (snoc xs b) ≡ length xs + 1
length_snoc xs b = length-append xs (b ∷ [])

-- ---- bytes that begin with a whole message

pub record Begins (xs : List ℕ) (x : Header) : Type 0 where
  pub read : read_header xs ≡ Ok x
  pub reached : x.head + x.body ≤ length xs

module _ (xs : List ℕ) where
  pub begins_whole : (x : Header) → Begins xs x → first_verdict xs ≡ whole (take x.head xs) x
  begins_whole x w = rw (w.read, le-ltb (length xs) (x.head + x.body) w.reached)

  pub whole_begins : is_whole (first_verdict xs) ≡ true → (x : Header) × Begins xs x
  whole_begins e =
      (elim (read_header xs) as (λ (r : Reading). read_header xs ≡ r → is_whole (finished (length xs) xs r) ≡ true → (x : Header) × Begins xs x) [
        | Err Short ↦ λ r q. absurd (false≢true q)
        | Err (Broken a) ↦ λ r q. absurd (false≢true q)
        | Ok x ↦ λ r. choice (λ (v : Verdict). is_whole v ≡ true → (x : Header) × Begins xs x) (ltb (length xs) (x.head + x.body)) _ _
            (λ l p. absurd (false≢true p)) (λ l p. (x, record { read = r; reached = ltb-false (length xs) (x.head + x.body) l }))
      ]) refl e

  begins_size : (x : Header) → Begins xs x → size (first_verdict xs) ≡ x.head + x.body
  begins_size x w = ap size (begins_whole x w)

  -- a whole message is whole whatever follows it
  module _ (e : is_whole (first_verdict xs) ≡ true) where
    pub whole_some : 16 ≤ size (first_verdict xs)
    whole_some = let w = whole_begins e in omega (arith, begins_size w.0 w.1, (whole_fits xs w.0 w.1.read).head_low)

    pub whole_reached : size (first_verdict xs) ≤ length xs
    whole_reached = let w = whole_begins e in omega (arith, begins_size w.0 w.1, w.1.reached)

    pub whole_append : (ys : List ℕ) → first_verdict (xs ++ ys) ≡ first_verdict xs
    whole_append ys =
        let x = (whole_begins e).0 in
        let w = (whole_begins e).1 in
        let r : read_header (xs ++ ys) ≡ Ok x = read_append xs ys (λ q. impossible (cc (w.read, q))) ∙ w.read in
        let l = length-append xs ys in
        rw (
          r,
          le-ltb (length (xs ++ ys)) (x.head + x.body) (omega (arith, w.reached)),
          take-append-le x.head xs ys (whole_fits xs x w.read).head_inside,
        )
        (sym (begins_whole x w))

-- ---- bytes that go on past their first message

past_whole : (xs : List ℕ) → past xs ≡ true → is_whole (first_verdict xs) ≡ true
past_whole xs e = both_first (is_whole (first_verdict xs)) (ltb (size (first_verdict xs)) (length xs)) e

past_less : (xs : List ℕ) → past xs ≡ true → size (first_verdict xs) < length xs
past_less xs e = ltb-true (size (first_verdict xs)) (length xs) (both_second (is_whole (first_verdict xs)) (ltb (size (first_verdict xs)) (length xs)) e)

module _ (xs : List ℕ) (b : ℕ) where
  past_snoc : is_whole (first_verdict xs) ≡ true → past (snoc xs b) ≡ true
  past_snoc e =
      rw (whole_append xs e (b ∷ []), e, lt-ltb (size (first_verdict xs)) (length (snoc xs b)) (omega (arith, whole_reached xs e, length_snoc xs b)))

  drop_snoc : is_whole (first_verdict xs) ≡ true → drop (size (first_verdict (snoc xs b))) (snoc xs b) ≡ snoc (drop (size (first_verdict xs)) xs) b
  drop_snoc e = rw (whole_append xs e (b ∷ [])) (drop-append-le (size (first_verdict xs)) xs (b ∷ []) (whole_reached xs e))

  -- a message that is whole with one byte to spare was whole before
  whole_before : past (snoc xs b) ≡ true → is_whole (first_verdict xs) ≡ true
  whole_before e =
      let w = whole_begins (snoc xs b) (past_whole (snoc xs b) e) in
      let x = w.0 in
      let f = whole_fits (snoc xs b) x w.1.read in
      let s : x.head + x.body ≤ length xs = omega (arith, past_less (snoc xs b) e, begins_size (snoc xs b) x w.1, length_snoc xs b) in
      let k : head_length (snoc xs b) ≤ length xs = omega (arith, f.head_is) in
      let r : read_header xs ≡ Ok x = sym (ap read_header (take_at xs (b ∷ []) (length xs) refl))
      ∙ read_front (length xs) (snoc xs b) (omega (arith, f.head_low)) k ∙ w.1.read in
      ap is_whole (begins_whole xs x (record { read = r; reached = s }))

-- ---- the cut

pub cut_stops : (f : ℕ) (xs : List ℕ) → past xs ≡ false → cut_off f xs ≡ xs
unfolding cut_off
cut_stops zero xs e = refl
cut_stops (suc f) xs e = rw (e, cut_off)

pub cut_step : (f : ℕ) (xs : List ℕ) → past xs ≡ true → cut_off (suc f) xs ≡ cut_off f (drop (size (first_verdict xs)) xs)
unfolding cut_off
cut_step f xs e = rw (e, cut_off)

pub past_few : (xs : List ℕ) → length xs ≤ 16 → past xs ≡ false
past_few xs h = refute (past xs) (λ e. omega (arith, past_less xs e, whole_some xs (past_whole xs e)))

-- as many cuts as there are bytes are enough
pub cut_enough : (f g : ℕ) (xs : List ℕ) → length xs ≤ f → length xs ≤ g → cut_off f xs ≡ cut_off g xs
cut_enough zero g xs h k = let e = past_few xs (omega arith) in cut_stops 0 xs e ∙ sym (cut_stops g xs e)
cut_enough (suc f) zero xs h k = let e = past_few xs (omega arith) in cut_stops (suc f) xs e ∙ sym (cut_stops 0 xs e)
cut_enough (suc f) (suc g) xs h k =
    by_test (past xs)
    (λ e. let w = whole_some xs (past_whole xs e) in
    let l = length-drop (size (first_verdict xs)) xs in
    cut_step f xs e ∙ cut_enough f g (drop (size (first_verdict xs)) xs) (omega arith) (omega arith) ∙ sym (cut_step g xs e))
    (λ e. cut_stops (suc f) xs e ∙ sym (cut_stops (suc g) xs e))

-- the first message of xs goes on to its end
module _ (f : ℕ) (xs : List ℕ) (b : ℕ) (n : past xs ≡ false) where
  last_snoc : cut_off (suc f) (snoc xs b) ≡ cond (is_whole (first_verdict xs)) (b ∷ []) (snoc xs b)
  last_snoc =
      by_test (is_whole (first_verdict xs))
      (λ e. let ends = ltb-false (size (first_verdict xs)) (length xs) (rw e at n) in
      rw (e, cut_step f (snoc xs b) (past_snoc xs b e), drop_snoc xs b e, drop_of_length-le xs ends) (cut_stops f (b ∷ []) (past_few (b ∷ []) (omega arith))))
      (λ e. rw e (cut_stops (suc f) (snoc xs b) (refute (past (snoc xs b)) (λ q. clash (whole_before xs b q) e))))

abbrev onward : List ℕ → ℕ → List ℕ
onward c b = cond (is_whole (first_verdict c)) (b ∷ []) (snoc c b)

-- cutting with one byte more
cut_snoc : (f : ℕ) (xs : List ℕ) (b : ℕ) → length xs ≤ f → cut_off (suc f) (snoc xs b) ≡ onward (cut_off f xs) b
cut_snoc zero xs b h =
    let e = past_few xs (omega arith) in
    last_snoc 0 xs b e ∙ ap (λ (c : List ℕ). onward c b) (sym (cut_stops 0 xs e))
cut_snoc (suc f) xs b h =
    by_test (past xs)
    (λ e. let w = past_whole xs e in
    cut_step (suc f) (snoc xs b) (past_snoc xs b w)
    ∙ ap (cut_off (suc f)) (drop_snoc xs b w)
    ∙ cut_snoc f (drop (size (first_verdict xs)) xs) b (omega (arith, length-drop (size (first_verdict xs)) xs, whole_some xs w))
    ∙ ap (λ (c : List ℕ). onward c b) (sym (cut_step f xs e)))
    (λ e. last_snoc (suc f) xs b e ∙ ap (λ (c : List ℕ). onward c b) (sym (cut_stops (suc f) xs e)))

pub current_snoc : (xs : List ℕ) (b : ℕ) → current (snoc xs b) ≡ cond (is_whole (first_verdict (current xs))) (b ∷ []) (snoc (current xs) b)
current_snoc xs b =
    let e : length (snoc xs b) ≡ suc (length xs) = length_snoc xs b ∙ add-one (length xs) in
    ap (λ (f : ℕ). cut_off f (snoc xs b)) e ∙ cut_snoc (length xs) xs b (omega arith)

pub current_none : current [] ≡ []
current_none = cut_stops 0 [] (past_few [] (omega arith))

pub front_none : first_verdict [] ≡ more
front_none = ap (finished 0 []) (read_few [] (omega arith))
