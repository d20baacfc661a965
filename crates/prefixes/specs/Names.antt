-- The list of names that a conversion is lent: well-known names, each behind its length byte (rule 14.2).
use Rattle.std.specs.Prelude.{Bool, true, ◌&&◌, List, [], ◌∷◌, map, ℕ, zero, suc, eqb, length, take, drop}
use Rattle.wire.specs.Bytes.{same}
use Rattle.wire.specs.Lists.{every, distinct}
use Rattle.names.specs.Names.{valid_name}
use Rattle.names.specs.declared.Form.TheVariants.{WellKnown}

-- a length byte, and the bytes behind it that it speaks of; where the list ends before them, those that are there
pub record Entry : Type 0 where
  pub size : ℕ
  pub name : List ℕ

-- the first entries of a list, n at most
unfoldable pub first_entries : ℕ → List ℕ → List Entry
first_entries zero list = []
first_entries (suc n) [] = []
first_entries (suc n) (size ∷ list) = record { size = size; name = take size list } ∷ first_entries n (drop size list)

-- all of them: a list has no more entries than bytes (rule 14.2)
unfoldable pub entries : List ℕ → List Entry
entries list = first_entries (length list) list

-- the names (rule 14.2)
unfoldable pub listed : List ℕ → List (List ℕ)
listed list = map (λ e. e.name) (entries list)

-- no name is cut (rule 14.2)
unfoldable pub whole : List ℕ → Bool
whole list = every (λ e. eqb (length e.name) e.size) (entries list)

-- each is whole and a well-known name, and so none is empty (rule 14.2)
unfoldable pub good_names : List ℕ → Bool
good_names list = whole list && every (valid_name WellKnown) (listed list)

-- and none is there twice (rule 14.2)
unfoldable pub good_list : List ℕ → Bool
good_list list = good_names list && distinct (λ x. true) same (listed list)
