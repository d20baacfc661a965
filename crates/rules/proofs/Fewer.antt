-- A list with some of its things gone and the later ones moved down.
use mathlib.Core.Path.{◌≡◌, refl}
use mathlib.Core.Bool.{Bool, cond}
use mathlib.Core.List.{List, [], ◌∷◌}
use Prim.Native.Nat.{◌≤◌}
use native.Mathlib.Omega.{arith}
use lib.ListN.{length}
use Rattle.rules.specs.State.{Pending, drop_first}
use Rattle.rules.specs.Pending.{ended_where}
use Rattle.wire.proofs.Tests.{choice}

pub data Fewer {A : Type 0} : List A → List A → Type 0 where
  none : Fewer [] []
  skip : {x : A} {xs ys : List A} → Fewer xs ys → Fewer (x ∷ xs) ys
  keep : {x : A} {xs ys : List A} → Fewer xs ys → Fewer (x ∷ xs) (x ∷ ys)

pub all_kept : {A : Type 0} (xs : List A) → Fewer xs xs
all_kept [] = none
all_kept (x ∷ xs) = keep (all_kept xs)

pub fewer_length : {A : Type 0} {xs ys : List A} → Fewer xs ys → length ys ≤ length xs
fewer_length none = omega arith
fewer_length (skip f) = let h = fewer_length f in omega arith
fewer_length (keep f) = let h = fewer_length f in omega arith

-- what drops the things that pass a test, where `rest` is what it makes of those after one
dropped_fewer : {A : Type 0} (t : A → Bool) (out rest : List A → List A) → out [] ≡ []
    → ((x : A) (xs : List A) → out (x ∷ xs) ≡ cond (t x) (rest xs) (x ∷ out xs)) → ((xs : List A) → Fewer xs (out xs) → Fewer xs (rest xs))
    → (xs : List A) → Fewer xs (out xs)
dropped_fewer t out rest e s k [] = rw e none
dropped_fewer t out rest e s k (x ∷ xs) =
    let f = dropped_fewer t out rest e s k xs in
    rw (s x xs) (choice (Fewer (x ∷ xs)) (t x) _ _ (λ p. skip (k xs f)) (λ p. keep f))

-- the first that passes a test taken out, and all the calls that pass one
pub drop_fewer : {A : Type 0} (t : A → Bool) (xs : List A) → Fewer xs (drop_first t xs)
unfolding drop_first
drop_fewer t xs = dropped_fewer t (drop_first t) (λ l. l) refl (λ x l. refl) (λ l f. all_kept l) xs

pub ended_where_fewer : (t : Pending → Bool) (ws : List Pending) → Fewer ws (ended_where t ws)
unfolding ended_where
ended_where_fewer t ws = dropped_fewer t (ended_where t) (ended_where t) refl (λ w l. refl) (λ l f. f) ws
