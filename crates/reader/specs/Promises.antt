-- What the reader's functions require and ensure among themselves, in the terms of the definitions of a head.
use Rattle.std.specs.Prelude.{List, ◌≡◌, ℕ, ◌+◌, ◌≤◌, ◌<◌, length, get_or, Option}
use Rattle.wire.specs.Words.{round_up_8}
use Rattle.wire.specs.declared.Order.{Order}
use Rattle.header.specs.declared.Element.{Element}
use Rattle.header.specs.Fixed.{fixed_length, head_limit, order_of}
use Rattle.header.specs.Codes.{code_limit, reply_serial_code}
use Rattle.header.specs.Fields.{Fields, place_of, element_at}
use Rattle.header.specs.Promises.{SizedHead, ValuesFit}

-- an array that ends at `end` is read from `from` on, and its padding lies in h
pub record Inside (h : List ℕ) (end from : ℕ) : Type 0 where
  pub above : fixed_length ≤ from
  pub before : from ≤ end
  pub padded : round_up_8 end ≤ length h
  pub small : length h ≤ head_limit

-- in an array that ends at `end`, the code of a known field stands at `at`
pub record Known (h : List ℕ) (end at : ℕ) : Type 0 where
  pub before : at < end
  pub inside : end ≤ length h
  pub small : length h ≤ head_limit
  pub code : get_or h at 0 < code_limit

-- the element that a reader of h at `from` finds, in the byte order of h
abbrev pub element_in : List ℕ → ℕ → ℕ → Option Element
element_in h end from = element_at (order_of h) h end from

-- what the judgement of a whole head reads: its byte order, and fields whose values lie in it
pub record Reads (h : List ℕ) (o : Order) (fs : Fields) : Type 0 where
  pub order : o ≡ order_of h
  pub head : SizedHead h
  pub fits : ValuesFit h fs
  pub reply : (place_of fs reply_serial_code).at + (place_of fs reply_serial_code).len ≤ length h
