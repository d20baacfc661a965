-- What functions over a head require of it, in the terms of the definitions.
use Rattle.std.specs.Prelude.{List, ◌≡◌, ℕ, ◌+◌, ◌≤◌, length}
use Rattle.wire.specs.Words.{round_up_8}
use Rattle.header.specs.Fixed.{fixed_length, head_limit, array_length}
use Rattle.header.specs.Codes.{code_limit}
use Rattle.header.specs.Fields.{Fields, place_of}

-- h is a head as long as its array says
pub record SizedHead (h : List ℕ) : Type 0 where
  pub sized : length h ≡ fixed_length + round_up_8 (array_length h)
  pub small : length h ≤ head_limit

-- each value lies in h
pub record ValuesFit (h : List ℕ) (fs : Fields) : Type 0 where
  pub sized : length fs ≡ code_limit
  pub inside : (code : ℕ) → (place_of fs code).at + (place_of fs code).len ≤ length h
