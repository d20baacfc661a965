-- The first slot that passes a test.
use mathlib.Core.Path.{◌≡◌, refl, sym, ap, ◌∙◌}
use mathlib.Core.Bool.{Bool, true, cond}
use mathlib.Core.List.{List, [], ◌∷◌}
use Prim.Native.Nat.{ℕ, zero, suc, ◌<◌}
use native.Mathlib.Omega.{arith}
use native.Mathlib.Decide.{dec_lt}
use lib.Dec.{ltb, leb-suc-suc}
use lib.ListN.{length, get_or, set, get_or-eq_default}
use borrow.Author.Tests.{lt-ltb, eqb-true}
use Rattle.wire.specs.Lists.{any}
use Rattle.rules.specs.State.{Slot, free, peer, Peer, is_free, is_peer, first_by}
use Rattle.wire.proofs.Tests.{clash, choice, by_test}

-- it does pass
pub first_passes : {A : Type 0} (t : A → Bool) (l : List A) (d : A) → first_by t l < length l → t (get_or l (first_by t l) d) ≡ true
unfolding first_by
first_passes t [] d h = absurd (omega arith)
first_passes t (x ∷ l) d h =
    choice (λ (k : ℕ). k < suc (length l) → t (get_or (x ∷ l) k d) ≡ true) (t x) _ _ (λ e k. e) (λ e k. first_passes t l d (omega arith)) h

-- one does exactly where it is one of the list
pub first_any : {A : Type 0} (t : A → Bool) (l : List A) → any t l ≡ ltb (first_by t l) (length l)
unfolding first_by
first_any t [] = refl
first_any t (x ∷ l) =
    by_test (t x) (λ e. rw e (sym (lt-ltb 0 (suc (length l)) (omega arith)))) (λ e. rw e (first_any t l ∙ sym (leb-suc-suc (suc (first_by t l)) (length l))))

-- it stays where one is put that passes as the one before it did
pub first_set : {A : Type 0} (t : A → Bool) (l : List A) (i : ℕ) (x d : A) → t x ≡ t (get_or l i d) → first_by t (set l i x) ≡ first_by t l
unfolding first_by
first_set t [] i x d e = refl
first_set t (y ∷ l) zero x d e = ap (λ (b : Bool). cond b 0 (suc (first_by t l))) e
first_set t (y ∷ l) (suc i) x d e = ap (λ (k : ℕ). cond (t y) 0 (suc k)) (first_set t l i x d e)

-- a place that has a peer is one of the slots
pub taken_below : {S : Type 0} (l : List (Slot S)) (i : ℕ) (p : Peer S) → get_or l i free ≡ peer p → i < length l
taken_below l i p e =
    elim (dec_lt i (length l)) [ yes h ↦ h | no h ↦ absurd (clash {b = true} refl (ap is_free (sym (get_or-eq_default l free (omega arith)) ∙ e))) ]

-- the peer that a number finds has it
pub number_found : {S : Type 0} (l : List (Slot S)) (n : ℕ) (p : Peer S) → get_or l (first_by (is_peer n) l) free ≡ peer p → p.number ≡ n
number_found l n p e = eqb-true p.number n (sym (ap (is_peer n) e) ∙ first_passes (is_peer n) l free (taken_below l (first_by (is_peer n) l) p e))
