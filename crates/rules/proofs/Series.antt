-- Calls one after the other with what is left of a piece (rule 9.6): the first of them, one place, more places, a refusal, states seen as others, and how
-- much they take.
use mathlib.Core.Path.{◌≡◌, refl, sym, ap, ◌∙◌}
use mathlib.Core.Bool.{true, false}
use mathlib.Core.List.{List, [], ◌∷◌, ◌++◌}
use Prim.Native.Nat.{ℕ, zero, suc, ◌+◌, ◌≤◌}
use native.Mathlib.Nat.{suc-add}
use native.Mathlib.Omega.{arith}
use lib.ListN.{length, take, drop}
use lib.Seq.{take_all}
use Rattle.wire.proofs.Tests.{by_test, choice}
use Rattle.stream.specs.Stream.{Verdict, more, broken, whole, Streams, offer}
use Rattle.stream.proofs.Offers.{taken_within}
use Rattle.rules.specs.State.{Slot, free, peer, Peer, State, is_peer, first_by}
use Rattle.rules.specs.Calls.{Step, stays, no_piece, offered, slot_at, piece_at, piece}
use Rattle.rules.specs.Series.{series, behind_first, taken_by}
use Rattle.rules.specs.Places.{is_stop, goes_on}
use Rattle.rules.specs.View.{seen, seen_step}
use Rattle.rules.specs.declared.Taken.{Taken}

module _ {S : Type 0} (call : State S → List ℕ → Step S Taken) where
  -- what the calls behind a first one do, and what they do not where it ends all
  abbrev rest : ℕ → Step S Taken → List ℕ → Step S (List Taken)
  rest k z p = behind_first z.result (series call k z.state (drop z.result.taken p))

  pub series_on : (k : ℕ) (s : State S) (p : List ℕ) → goes_on (call s p).result p ≡ true → series call (suc k) s p ≡ rest k (call s p) p
  unfolding series
  series_on k s p o = rw (o, series)

  pub series_last : (k : ℕ) (s : State S) (p : List ℕ) → goes_on (call s p).result p ≡ false
      → series call (suc k) s p ≡ behind_first (call s p).result (stays (call s p).state [])
  unfolding series
  series_last k s p o = rw (o, series)

  -- one place: the first call, whether or not it goes on
  pub series_one : (s : State S) (p : List ℕ) → series call 1 s p ≡ behind_first (call s p).result (stays (call s p).state [])
  unfolding series
  series_one s p = by_test (goes_on (call s p).result p) (series_on 0 s p) (series_last 0 s p)

  -- more places only add reports behind those that there are
  pub series_prefix : (k j : ℕ) (s : State S) (p : List ℕ) → (series call k s p).result ≡ take k (series call (k + j) s p).result
  unfolding series
  series_prefix zero j s p = refl
  series_prefix (suc k) j s p =
      let z = call s p in
      rw (suc-add k j)
      (by_test (goes_on z.result p)
      (λ o. rw (series_on k s p o, series_on (k + j) s p o) (ap (◌∷◌ z.result) (series_prefix k j z.state (drop z.result.taken p))))
      (λ o. rw (series_last k s p o, series_last (k + j) s p o) (ap (◌∷◌ z.result) (sym (take_all k [] (omega arith))))))

-- a call that is refused whatever is offered ends all
pub series_refused : {S : Type 0} (a k : ℕ) (s : State S) (p : List ℕ) → is_stop a ≡ true
    → series (λ x q. stays x (no_piece a)) (suc k) s p ≡ stays s (no_piece a ∷ [])
series_refused a k s p h = series_last (λ x q. stays x (no_piece a)) k s p (rw h)

-- calls that are seen as others are so one after the other
pub series_seen : {A B : Type 0} (f : A → B) (call : State A → List ℕ → Step A Taken) (other : State B → List ℕ → Step B Taken)
    → ((s : State A) (p : List ℕ) → other (seen f s) p ≡ seen_step f (call s p))
    → (k : ℕ) (s : State A) (p : List ℕ) → series other k (seen f s) p ≡ seen_step f (series call k s p)
unfolding series
series_seen f call other e zero s p = refl
series_seen {B = B} f call other e (suc k) s p =
    let z = call s p in
    by_test (goes_on z.result p)
    (λ o. series_on other k (seen f s) p (rw (e s p) o) ∙ ap (λ (x : Step B Taken). rest other k x p) (e s p)
    ∙ ap (behind_first z.result) (series_seen f call other e k z.state (drop z.result.taken p)) ∙ sym (ap (seen_step f) (series_on call k s p o)))
    (λ o. series_last other k (seen f s) p (rw (e s p) o) ∙ ap (λ (x : Step B Taken). behind_first x.result (stays x.state [])) (e s p)
    ∙ sym (ap (seen_step f) (series_last call k s p o)))

-- ---- what is taken

pub taken_next : (ts : List Taken) (t : Taken) → taken_by (ts ++ (t ∷ [])) ≡ taken_by ts + t.taken
unfolding taken_by
taken_next [] t = omega arith
taken_next (x ∷ ts) t = omega (arith, taken_next ts t)

-- a call takes no more than it is offered
module _ {S : Type 0} (O : Streams S) (image : List ℕ) (p : List ℕ) where
  offered_taken : (s : State S) (i : ℕ) (q : Peer S) (n : ℕ) (v : Verdict) → (offered image s i q n v).result.taken ≡ n
  offered_taken s i q n more = refl
  offered_taken s i q n (broken a) = refl
  offered_taken s i q n (whole h x) = refl

  within_at : (s : State S) (i : ℕ) (x : Slot S) → (piece_at O image s i x p).result.taken ≤ length p
  within_at s i free = omega arith
  within_at s i (peer q) =
      let o = offer O q.stream p in
      choice (λ (z : Step S Taken). z.result.taken ≤ length p) (O.closed q.stream) _ _ (λ e. omega arith)
      (λ e. rw (offered_taken _ i _ o.taken o.verdict) (taken_within O q.stream p))

  pub piece_within : (s : State S) (n : ℕ) → (piece O image s n p).result.taken ≤ length p
  unfolding piece
  piece_within s n = let i = first_by (is_peer n) s.slots in within_at s i (slot_at s i)
