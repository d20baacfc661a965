-- Subjects: a law for each way through the tests of a user and of groups.
use mathlib.Core.Path.{◌≡◌, refl, sym, ◌∙◌}
use mathlib.Core.Bool.{Bool, true, false}
use mathlib.Core.List.{List}
use Prim.Native.Nat.{ℕ, ◌+◌, ◌≤◌, ◌<◌}
use lib.ListN.{length, drop, get_or}
use borrow.Author.Rules.{rules}
use borrow.Author.Tests.{eq-eqb, ne_eqb}
use Rattle.wire.proofs.From.{next, past}
use Rattle.policy.specs.Subjects.{same_user, in_groups, subject_fits}
use Rattle.policy.specs.declared.Uid.{Uid}
use Rattle.policy.specs.declared.Gid.{Gid}

-- the group is one of the gids if it is one of those from i on
pub record Looking (gids : List ℕ) (g : Gid) (i : ℕ) : Type 0 where
  pub left : in_groups gids g ≡ in_groups (drop i gids) g

pub look : {gids : List ℕ} {g : Gid} → Looking gids g 0
look = record { left = refl }

module _ {gids : List ℕ} {g : Gid} {i : ℕ} (v : Looking gids g i) where
  pub look_end : length gids ≤ i → false ≡ in_groups gids g
  unfolding in_groups
  look_end h = sym (v.left ∙ rw (past gids i h))

  pub look_here : i < length gids → get_or gids i 0 ≡ g.0 → true ≡ in_groups gids g
  unfolding in_groups
  look_here h e = sym (v.left ∙ rw (next gids i h, eq-eqb (get_or gids i 0) g.0 e))

  pub look_more : i < length gids → (get_or gids i 0 ≡ g.0 → ⊥) → Looking gids g (i + 1)
  unfolding in_groups
  look_more h e = record { left = v.left ∙ rw (next gids i h, ne_eqb (get_or gids i 0) g.0 e) }

module _ (context subject : ℕ) (uid : Uid) (gids : List ℕ) where
  pub of_group : context ≡ 1 → {r : Bool} → r ≡ in_groups gids (record { 0 = subject }) → r ≡ subject_fits context subject uid gids
  unfolding subject_fits
  of_group e h = rw (e) h

  pub of_user : (context ≡ 1 → ⊥) → context ≡ 2 → {r : Bool} → r ≡ same_user uid (record { 0 = subject }) → r ≡ subject_fits context subject uid gids
  unfolding subject_fits
  of_user n e h = rw (e) h

  pub of_all : (context ≡ 1 → ⊥) → (context ≡ 2 → ⊥) → true ≡ subject_fits context subject uid gids
  unfolding subject_fits
  of_all n m = rw (ne_eqb context 1 n, ne_eqb context 2 m)

pub ruleset looking = (look, look_end, look_here, look_more, rules)

pub ruleset subjects = (of_group, of_user, of_all, rules)
