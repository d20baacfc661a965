-- What the functions over an image and a head require, as plain numbers.
use Rattle.std.specs.Prelude.{List, ℕ, ◌+◌, ◌≤◌, length}
use Rattle.image.specs.Image.{sections_at, span_width, name_span, path_span, interface_span, member_span, rule_size, string_offset}
use Rattle.image.specs.Rules.{span_at}
use Rattle.image.specs.declared.Section.TheVariants.{Own, Transaction}
use Rattle.header.specs.declared.Place.{Place}
use Rattle.header.specs.declared.Header.{Header}

-- ---- places in an image

-- the string whose offset and length stand at `at` lies inside the image
pub record Cited (image : List ℕ) (at : ℕ) : Type 0 where
  pub header : sections_at ≤ length image
  pub room : at + span_width ≤ length image
  pub inside : string_offset image + (span_at image at).offset + (span_at image at).len ≤ length image

-- an own rule stands at `at`
pub record OwnAt (image : List ℕ) (at : ℕ) : Type 0 where
  pub room : at + rule_size Own ≤ length image
  pub name : Cited image (at + name_span)

-- a transaction rule stands at `at`
pub record TransactionAt (image : List ℕ) (at : ℕ) : Type 0 where
  pub room : at + rule_size Transaction ≤ length image
  pub name : Cited image (at + name_span)
  pub path : Cited image (at + path_span)
  pub interface : Cited image (at + interface_span)
  pub member : Cited image (at + member_span)

-- ---- places in a head

-- the values that rules speak of lie inside the head
pub record Within (head : List ℕ) (m : Header) : Type 0 where
  pub path : m.path.at + m.path.len ≤ length head
  pub interface : m.interface.at + m.interface.len ≤ length head
  pub member : m.member.at + m.member.len ≤ length head

-- ---- what is asked

-- of one rule, and of one string of it
pub record RuleAsked (image : List ℕ) (at : ℕ) (head : List ℕ) (m : Header) : Type 0 where
  pub rule : TransactionAt image at
  pub within : Within head m

pub record InterfaceAsked (image : List ℕ) (at : ℕ) (head : List ℕ) (p : Place) : Type 0 where
  pub rule : TransactionAt image at
  pub inside : p.at + p.len ≤ length head

pub record PartAsked (image : List ℕ) (at : ℕ) (head : List ℕ) (p : Place) : Type 0 where
  pub cited : Cited image at
  pub inside : p.at + p.len ≤ length head
