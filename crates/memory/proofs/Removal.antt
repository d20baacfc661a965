-- The names and pending calls without one of them, or without all that pass a test, as a loop over their places makes them.
use mathlib.Core.Bool.{Bool, true, false, cond}
use mathlib.Core.List.{List, [], ◌∷◌, ◌++◌, append-nil, append_assoc}
use mathlib.Core.Path.{◌≡◌, refl, sym, ap, ◌∙◌}
use Prim.Native.Nat.{ℕ, suc, ◌+◌, ◌≤◌, ◌<◌}
use native.Mathlib.Omega.{arith}
use native.Mathlib.Numerals.{add-one}
use lib.ListN.{length, get_or, take, drop, drop_of_length-le}
use lib.Seq.{take_at, drop_at, drop-cons, take-suc, take_all, length-take-le}
use Rattle.wire.proofs.Tests.{by_test}
use Rattle.wire.specs.Bytes.{same}
use Rattle.tables.specs.Cut.{without}
use Rattle.tables.proofs.Change.{without_length, without_next}
use Rattle.rules.specs.State.{Pending, first_by, drop_first}
use Rattle.rules.specs.Pending.{is_call, ended, ended_where}
use Rattle.rules.specs.Calls.{released}

-- ---- the first that passes a test taken out, or nothing

drop_without : {A : Type 0} (t : A → Bool) (xs : List A) → drop_first t xs ≡ without (first_by t xs) xs
unfolding first_by drop_first
drop_without t [] = refl
drop_without {A = A} t (x ∷ xs) = go (t x) (drop_without t xs)
  where
    go : (b : Bool) → drop_first t xs ≡ without (first_by t xs) xs → cond b xs (x ∷ drop_first t xs) ≡ without (cond b 0 (suc (first_by t xs))) (x ∷ xs)
    go true e = refl
    go false e = ap (λ (r : List A). x ∷ r) e ∙ sym (without_next x (first_by t xs) xs)

pub released_without : (name : List ℕ) (xs : List (List ℕ)) → released name xs ≡ without (first_by (λ x. same x name) xs) xs
unfolding released
released_without name xs = drop_without (λ x. same x name) xs

pub ended_without : (callee serial : ℕ) (ws : List Pending) → ended callee serial ws ≡ without (first_by (is_call callee serial) ws) ws
unfolding ended
ended_without callee serial ws = drop_without (is_call callee serial) ws

-- ---- all that pass a test: those from place j on have been looked at and stay, and those before j are still to be looked at

pub record Leaving (t : Pending → Bool) (ws₀ ws : List Pending) (j : ℕ) : Type 0 where
  pub below : j ≤ length ws
  pub left : ended_where t ws₀ ≡ ended_where t (take j ws) ++ drop j ws

pub leaving_begins : (t : Pending → Bool) (ws : List Pending) (n : ℕ) → n ≡ length ws → Leaving t ws ws n
leaving_begins t ws n e =
    record { below = omega arith; left = sym (rw (take_all n ws (omega arith), drop_of_length-le ws {i = n} (omega arith)) (append-nil (ended_where t ws))) }

-- the last one goes or stays
ended_last : (t : Pending → Bool) (ws : List Pending) (w : Pending) → ended_where t (ws ++ (w ∷ [])) ≡ ended_where t ws ++ cond (t w) [] (w ∷ [])
unfolding ended_where
ended_last t [] w = refl
ended_last t (v ∷ ws) w = by_test (t v) (λ p. rw (p, ended_last t ws w)) (λ p. rw (p, ended_last t ws w))

module _ (t : Pending → Bool) (ws₀ ws : List Pending) (j : ℕ) (g : Leaving t ws₀ ws (j + 1)) (d : Pending) where
  inside : j < length ws
  inside = omega (arith, g.below)

  -- call j by itself
  apart : ended_where t ws₀ ≡ (ended_where t (take j ws) ++ cond (t (get_or ws j d)) [] (get_or ws j d ∷ [])) ++ drop (j + 1) ws
  apart =
      g.left
      ∙ ap (λ (z : List Pending). z ++ drop (j + 1) ws) (ap (ended_where t) (ap (λ (n : ℕ). take n ws) (add-one j) ∙ take-suc ws j d inside)
      ∙ ended_last t (take j ws) (get_or ws j d))

  -- it passes: it is taken out
  pub leaving_out : t (get_or ws j d) ≡ true → Leaving t ws₀ (without j ws) j
  leaving_out e =
      let l : length (take j ws) ≡ j = length-take-le j ws (omega (arith, inside)) in
      record {
        below = omega (arith, without_length j ws inside, inside);
        left =
            apart
            ∙ rw (
              e,
              append-nil (ended_where t (take j ws)),
              take_at (take j ws) (drop (j + 1) ws) j l,
              drop_at (take j ws) (drop (j + 1) ws) j l,
            );
      }

  pub leaving_stays : t (get_or ws j d) ≡ false → Leaving t ws₀ ws j
  leaving_stays e =
      let q : drop j ws ≡ get_or ws j d ∷ drop (j + 1) ws = rw (add-one j) (drop-cons ws j d inside) in
      record {
        below = omega (arith, inside);
        left = apart ∙ rw (e, q) (append_assoc (ended_where t (take j ws)) (get_or ws j d ∷ []) (drop (j + 1) ws));
      }

pub leaving_ends : (t : Pending → Bool) (ws₀ ws : List Pending) → Leaving t ws₀ ws 0 → ws ≡ ended_where t ws₀
unfolding ended_where
leaving_ends t ws₀ ws g = sym g.left
