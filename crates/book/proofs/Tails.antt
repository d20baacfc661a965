-- The guard's streams are the model's, seen by their last message: how many of its bytes have come, and those of its head.
use mathlib.Core.Path.{◌≡◌, refl, sym, ap, ◌∙◌}
use mathlib.Core.Bool.{true, false, cond, false≢true}
use mathlib.Core.List.{List, [], ◌∷◌, ◌++◌}
use Prim.Native.Nat.{ℕ, ◌≤◌, ◌<◌}
use native.Mathlib.Omega.{arith}
use native.Mathlib.Decide.{dec_lt}
use lib.Dec.{ltb}
use lib.ListN.{length, take, length-take}
use lib.Seq.{take-append-le, take_all, take-take}
use borrow.Author.Tests.{lt-ltb, le-ltb}
use Rattle.std.specs.Prelude.{Ok, Err}
use Rattle.header.specs.declared.Unread.TheVariants.{Short, Broken}
use Rattle.header.specs.Fixed.{head_length}
use Rattle.header.specs.Header.{Reading, read_header}
use Rattle.header.proofs.Front.{head_low, head_front, head_append}
use Rattle.header.proofs.Readings.{read_front, whole_fits}
use Rattle.stream.specs.Stream.{Verdict, more, broken, whole}
use Rattle.stream.specs.Tail.{Tail, finished, is_broken, head_end, fresh, push, judge, closed, tails}
use Rattle.stream.proofs.Good.{end_is, fresh_more}
use Rattle.wire.proofs.Tests.{choice, by_test}
use Rattle.rules.proofs.View.{chosen}
use Rattle.rules.proofs.Seen.{Simulates}
use Rattle.book.specs.Book.{first_verdict, is_whole, current, books, kept_tail, tail_view}
use Rattle.book.proofs.Cut.{snoc, length_snoc, current_snoc, current_none}

-- ---- the bytes kept say all

few_end : (c : List ℕ) → length c < 16 → head_end c ≡ 16
few_end c h = rw (lt-ltb (length c) 16 h)

end_low : (c : List ℕ) → 16 ≤ head_end c
end_low c = elim (dec_lt (length c) 16) [ yes h ↦ rw (few_end c h) (omega arith) | no h ↦ rw (end_is c (omega arith)) (head_low c) ]

read_kept : (c : List ℕ) → read_header (take (head_end c) c) ≡ read_header c
read_kept c =
    elim (dec_lt (length c) 16) [
      | yes h ↦ ap read_header (take_all (head_end c) c (omega (arith, end_low c)))
      | no h ↦ rw (end_is c (omega arith)) (read_front (head_length c) c (head_low c) (omega arith))
    ]

judge_kept : (c : List ℕ) → judge (kept_tail c) ≡ first_verdict c
judge_kept c =
    rw (read_kept c)
    ((elim (read_header c) as (λ (r : Reading). read_header c ≡ r → finished (length c) (take (head_end c) c) r ≡ finished (length c) c r) [
      | Err Short ↦ λ e. refl
      | Err (Broken a) ↦ λ e. refl
      | Ok x ↦ λ e. let f = whole_fits c x e in
          let n : x.head ≤ head_end c = omega (arith, f.head_is, end_is c (omega (arith, f.head_low, f.head_inside))) in
          rw (take-take x.head (head_end c) c n)
    ]) refl)

-- ---- one byte more

abbrev joins : List ℕ → ℕ → List ℕ
joins h b = cond (ltb (length h) (head_end h)) (h ++ (b ∷ [])) h

head_kept : (c : List ℕ) (b : ℕ) → joins (take (head_end c) c) b ≡ take (head_end (snoc c b)) (snoc c b)
head_kept c b =
    let n = head_length c in
    let s = length_snoc c b in
    elim (dec_lt (length c) 16) [
      | yes h ↦ let e = few_end c h in
          rw (take_all (head_end c) c (omega arith), e, lt-ltb (length c) 16 h)
          (sym (take_all (head_end (snoc c b)) (snoc c b) (omega (arith, end_low (snoc c b)))))
      | no h ↦ let e : head_end c ≡ n = end_is c (omega arith) in
          let e' : head_end (snoc c b) ≡ n = end_is (snoc c b) (omega arith) ∙ head_append c (b ∷ []) (omega arith) in
          rw (e, e')
          (elim (dec_lt (length c) n) [
            | yes d ↦ rw (take_all n c (omega arith), e, lt-ltb (length c) n d) (sym (take_all n (snoc c b) (omega arith)))
            | no d ↦ let l = head_low c in
                let k : length (take n c) ≡ n = length-take n c ∙ omega arith in
                let f : head_end (take n c) ≡ n = end_is (take n c) (omega arith) ∙ head_front n c l in
                rw (f, k, le-ltb n n (omega arith)) (sym (take-append-le n c (b ∷ []) (omega arith)))
          ])
    ]

push_kept : (c : List ℕ) (b : ℕ) → push (kept_tail c) b ≡ kept_tail (snoc c b)
push_kept c b =
    let n = sym (length_snoc c b) in
    let h = head_kept c b in
    λ i. record { taken = n i; head = h i }

push_view : (xs : List ℕ) (b : ℕ) → push (tail_view xs) b ≡ kept_tail (current (snoc xs b))
push_view xs b =
    rw (current_snoc xs b)
    (by_test (is_whole (first_verdict (current xs))) (λ e. rw e (push_kept [] b)) (λ e. rw e (push_kept (current xs) b)))

-- ---- the view

view_unless : (xs : List ℕ) (v : Verdict) → is_whole v ≡ false → first_verdict (current xs) ≡ v → kept_tail (current xs) ≡ tail_view xs
view_unless xs v n e = rw (e, n)

-- a broken stream is kept as it is
pub judge_broken : (xs : List ℕ) (a : ℕ) → first_verdict (current xs) ≡ broken a → judge (tail_view xs) ≡ broken a
judge_broken xs a e = ap judge (sym (view_unless xs (broken a) refl e)) ∙ judge_kept (current xs) ∙ e

whole_open : (v : Verdict) → is_whole v ≡ true → is_broken v ≡ false
whole_open more e = absurd (false≢true e)
whole_open (broken a) e = absurd (false≢true e)
whole_open (whole h x) e = refl

closed_view : (xs : List ℕ) → closed (tail_view xs) ≡ is_broken (first_verdict (current xs))
closed_view xs =
    by_test (is_whole (first_verdict (current xs))) (λ e. rw e (ap is_broken fresh_more ∙ sym (whole_open (first_verdict (current xs)) e)))
    (λ e. rw e (ap is_broken (judge_kept (current xs))))

pub fresh_view : fresh ≡ tail_view []
fresh_view = choice (λ (t : Tail). fresh ≡ t) (is_whole (first_verdict (current []))) _ _ (λ e. refl) (λ e. sym (ap kept_tail current_none))

-- the guard's streams answer as the model's do, whatever bytes have come
pub simulates : Simulates books tails tail_view
simulates =
    record {
      fresh = fresh_view;
      closed = closed_view;
      count = λ xs. sym (chosen (λ (t : Tail). t.taken) (is_whole (first_verdict (current xs))) _ _ _ _ refl refl);
      judge = λ xs b. ap judge (push_view xs b) ∙ judge_kept (current (snoc xs b));
      more = λ xs b e. push_view xs b ∙ view_unless (snoc xs b) more refl e;
      broken = λ xs b a e. push_view xs b ∙ view_unless (snoc xs b) (broken a) refl e;
      whole = λ xs b h x e. rw e;
    }
