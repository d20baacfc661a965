-- The names that a peer owns, as a list: what is good in it by itself, and what one more and some fewer leave.
use mathlib.Core.Path.{◌≡◌, sym, subst}
use mathlib.Core.Logic.{◌⊎◌, inl, inr}
use mathlib.Core.Bool.{Bool, true, false, ◌&&◌}
use mathlib.Core.List.{List, [], ◌∷◌, ◌++◌}
use Prim.Native.Nat.{ℕ}
use Rattle.wire.specs.Bytes.{same}
use Rattle.wire.specs.Lists.{distinct}
use Rattle.wire.proofs.Texts.{both_first, both_second, both_true, same_eq, same_refl}
use Rattle.policy.specs.Names.{owns}
use Rattle.stream.specs.Tail.{Tail}
use Rattle.rules.specs.State.{Slot}
use Rattle.rules.specs.Addresses.{ownable}
use Rattle.rules.specs.Calls.{is_owner}
use Rattle.memory.specs.Good.{nobody, good_names}
use Rattle.rules.proofs.Fewer.{Fewer}
use Rattle.rules.proofs.Any.{any_snoc, any_fewer, distinct_snoc, distinct_any, distinct_pass}

abbrev pub same_name : List ℕ → List ℕ → Bool
same_name x y = same y x

-- names that may be owned, each once
abbrev pub ok_names : List (List ℕ) → Bool
ok_names xs = distinct ownable same_name xs

pub owns_snoc : (xs : List (List ℕ)) (name y : List ℕ) → owns (xs ++ (name ∷ [])) y ≡ true → (owns xs y ≡ true) ⊎ (y ≡ name)
unfolding owns
owns_snoc xs name y h = elim (any_snoc (same_name y) xs name h) [ inl e ↦ inl e | inr e ↦ inr (sym (same_eq name y e)) ]

pub ok_snoc : (xs : List (List ℕ)) (name : List ℕ) → ok_names xs ≡ true → ownable name ≡ true → owns xs name ≡ false → ok_names (xs ++ (name ∷ [])) ≡ true
unfolding owns
ok_snoc xs name e o n =
    distinct_snoc ownable same_name name o (λ x h. subst (λ (y : List ℕ). same x y ≡ true) (sym (same_eq name x h)) (same_refl x)) xs e n

-- fewer names: none is owned that was not
pub owns_fewer : {xs ys : List (List ℕ)} → Fewer xs ys → (y : List ℕ) → owns ys y ≡ true → owns xs y ≡ true
unfolding owns
owns_fewer f y h = any_fewer (same_name y) f h

-- good names are good by themselves and nobody's in the slots after
module _ (later : List (Slot Tail)) where
  abbrev free : List ℕ → Bool
  free x = nobody (is_owner x) later

  pub names_ok : (xs : List (List ℕ)) → good_names xs later ≡ true → ok_names xs ≡ true
  unfolding good_names
  names_ok xs e = distinct_pass (λ x. ownable x && free x) same_name ownable same_refl xs e (λ x h p. both_first (ownable x) (free x) h)

  pub names_apart : (xs : List (List ℕ)) → good_names xs later ≡ true → (y : List ℕ) → owns xs y ≡ true → nobody (is_owner y) later ≡ true
  unfolding good_names owns
  names_apart xs e y h =
      distinct_any (λ x. ownable x && free x) same_name (free y ≡ true) (same_name y)
      (λ x p q. subst (λ (z : List ℕ). free z ≡ true) (same_eq x y q) (both_second (ownable x) (free x) p)) xs e h

  pub names_good : (xs : List (List ℕ)) → ok_names xs ≡ true → ((y : List ℕ) → owns xs y ≡ true → nobody (is_owner y) later ≡ true) → good_names xs later ≡ true
  unfolding good_names owns
  names_good xs e h = distinct_pass ownable same_name (λ x. ownable x && free x) same_refl xs e (λ x o p. both_true (ownable x) (free x) o (h x p))
