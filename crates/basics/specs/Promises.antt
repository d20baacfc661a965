-- What the functions of basic values ensure among themselves, in the terms of the definitions.
use Rattle.std.specs.Prelude.{◌≡◌, Bool, List, ℕ, ◌+◌, ◌≤◌, ◌<◌, length, Option, Some, None}
use Rattle.names.specs.Names.{valid_name}
use Rattle.names.specs.declared.Form.TheVariants as form
use Rattle.signature.specs.Signature.{valid_signature}
use Rattle.utf8.specs.Utf8.{valid_utf_8}
use Rattle.basics.specs.declared.Text.{Text}
use Rattle.basics.specs.declared.Text.TheVariants as text
use Rattle.basics.specs.Values.{round_up, padded}

abbrev pub good_text : Text → List ℕ → Bool
good_text text.Utf8 s = valid_utf_8 s
good_text text.Path s = valid_name form.Path s
good_text text.Signature s = valid_signature s

-- padding ends in the head
abbrev pub PadFits : List ℕ → ℕ → Option ℕ → Type 0
PadFits h at (Some a) = (at ≤ a) × (a ≤ length h)
PadFits h at None = Unit {0}

-- a value has a byte at least, and ends in the head
abbrev pub StopFits : List ℕ → ℕ → Option ℕ → Type 0
StopFits h at (Some to) = (at < to) × (to ≤ length h)
StopFits h at None = Unit {0}

pub record RoundedAt (k n r : ℕ) : Type 0 where
  pub is : r ≡ round_up k n
  pub low : n ≤ r
  pub near : r < n + 8

pub record PaddedAt (h : List ℕ) (k at : ℕ) (r : Option ℕ) : Type 0 where
  pub is : r ≡ padded h k at
  pub fits : PadFits h at r
