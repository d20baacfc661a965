-- Users and groups, which are types of their own, so that an id of the one is never compared with an id of the other (rule 1.3).
use Rattle.std.specs.Prelude.{Bool, true, cond, List, ℕ, eqb}
use Rattle.wire.specs.Lists.{any}
use Rattle.policy.specs.declared.Uid.{Uid}
use Rattle.policy.specs.declared.Gid.{Gid}

-- a uid is compared with a uid (rule 1.3)
abbrev pub same_user : Uid → Uid → Bool
same_user a b = eqb a.0 b.0

-- the group is one of a peer's gids, at any place among them (rules 1.3 and 6.2)
unfoldable pub in_groups : List ℕ → Gid → Bool
in_groups gids g = any (λ x. eqb x g.0) gids

-- the subject of context 1 is a group and that of context 2 a user; contexts 0 and 3 are everybody's (rule 6.2)
unfoldable pub subject_fits : ℕ → ℕ → Uid → List ℕ → Bool
subject_fits context subject uid gids =
    cond (eqb context 1) (in_groups gids (record { 0 = subject })) (cond (eqb context 2) (same_user uid (record { 0 = subject })) true)
