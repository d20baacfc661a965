-- What the search requires and promises.
use Rattle.std.specs.Prelude.{◌≡◌, Bool, true, false, List, ℕ, ◌+◌, ◌≤◌, ◌<◌, Option, None, Some}
use Rattle.image.specs.Image.{rule_count, rule_place}
use Rattle.image.specs.Promises.{GoodImage}
use Rattle.image.specs.declared.Section.{Section}
use Rattle.header.specs.declared.Header.{Header}
use Rattle.matching.specs.Promises.{Within}

-- what a tested image and a tested head give
pub record Asked (image head : List ℕ) (m : Header) : Type 0 where
  pub good : GoodImage image
  pub within : Within head m

-- ---- a test of rules by their places

-- each rule of the section may be tested
abbrev pub Testable : (ℕ → Type 0) → Section → List ℕ → Type 0
Testable may s image = (i : ℕ) → i < rule_count s image → may (rule_place s image i)

-- the test tells of each rule of the section whether it matches
abbrev pub Tells : (ℕ → Bool → Type 0) → Section → List ℕ → (ℕ → Bool) → Type 0
Tells tells s image matches = (i : ℕ) → i < rule_count s image → (r : Bool) → tells (rule_place s image i) r → r ≡ matches i

-- ---- the last rule of a context that matches

-- no rule of the context matches from a position on
abbrev pub NoneFrom : (ℕ → ℕ) → (ℕ → Bool) → ℕ → ℕ → ℕ → Type 0
NoneFrom context_of matches context n i = (j : ℕ) → i ≤ j → j < n → context_of j ≡ context → matches j ≡ false

pub record IsLast (context_of : ℕ → ℕ) (matches : ℕ → Bool) (context n i : ℕ) : Type 0 where
  pub inside : i < n
  pub here : context_of i ≡ context
  pub fits : matches i ≡ true
  pub none_behind : NoneFrom context_of matches context n (i + 1)

-- its position among the first n, where there is one
abbrev pub LastOf : (ℕ → ℕ) → (ℕ → Bool) → ℕ → ℕ → Option ℕ → Type 0
LastOf context_of matches context n None = NoneFrom context_of matches context n 0
LastOf context_of matches context n (Some i) = IsLast context_of matches context n i
