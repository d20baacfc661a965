-- Which names the prefixes of an image cover, and where the copies of these names come to stand (rules 14.3 and 14.4).
use Rattle.std.specs.Prelude.{Bool, cond, not, ◌&&◌, List, [], ◌∷◌, ℕ, ◌+◌, ◌-◌, length}
use Rattle.wire.specs.Lists.{below}
use Rattle.names.specs.Namespace.{in_namespace}
use Rattle.image.specs.Image.{rule_count, string_offset}
use Rattle.image.specs.Rules.{text_of, policy_rule}
use Rattle.image.specs.Good.{is_prefix_rule}
use Rattle.image.specs.declared.Section.TheVariants.{Own}
use Rattle.prefixes.specs.Names.{listed}

-- those of a list that pass the test
unfoldable pub passing : {A : Type 0} → (A → Bool) → List A → List A
passing p [] = []
passing p (x ∷ xs) = cond (p x) (x ∷ passing p xs) (passing p xs)

-- the text of own rule i
abbrev pub own_text : List ℕ → ℕ → List ℕ
own_text image i = text_of image (policy_rule Own image i).name

-- own rule i is about a prefix, and the name is the prefix or below it (rules 3.8 and 14.3)
abbrev pub covers : List ℕ → ℕ → List ℕ → Bool
covers image i name = is_prefix_rule (policy_rule Own image i) && in_namespace (own_text image i) name

-- some own rule covers the name
unfoldable pub covered : List ℕ → List ℕ → Bool
covered image name = not (below (λ i. not (covers image i name)) (rule_count Own image))

-- the names that are added: those that are covered, in list order (rule 14.4)
unfoldable pub added : List ℕ → List ℕ → List (List ℕ)
added image list = passing (covered image) (listed list)

-- a name, and the offset of its copy in the string area
pub record Copy : Type 0 where
  pub offset : ℕ
  pub name : List ℕ

-- the names' copies, one right behind the other
unfoldable pub copies_from : ℕ → List (List ℕ) → List Copy
copies_from offset [] = []
copies_from offset (x ∷ xs) = record { offset = offset; name = x } ∷ copies_from (offset + length x) xs

-- behind the old strings (rule 14.4)
abbrev pub copies : List ℕ → List ℕ → List Copy
copies image list = copies_from (length image - string_offset image) (added image list)
